use Rattle.std.specs.Prelude.{◌≡◌, ◌≢◌, ℕ, ◌+◌, ◌<◌, ◌≤◌, ◌==◌, if◌then◌else◌, not, List, [], ◌∷◌, ◌++◌, map}
use Rattle.std.specs.Prelude.{filter, length, slice_index_or, vec_len, vec_capacity, All, AllPairs}
use Rattle.std.specs.Global.{Vec}
use Rattle.ats_admission_users.specs.Users.{has_port}
use Rattle.ats_admission_users.specs.declared.entry.Entry.{Entry}
use Rattle.ats_admission_users.specs.declared.port_users.TheConstants.{MAX_PATHS}

-- the items of lists
abbrev pub items_of : List (Vec Entry) → List (List Entry)
items_of lists = map (λ (list : Vec Entry). list.items) lists

-- no slot stands twice
abbrev pub AllDiffer : List ℕ → Type 0
AllDiffer slots = AllPairs (λ a b. a ≢ b) slots

-- the places, by slot, are those of the slots, so far as these stand below some place
abbrev pub Tells : List ℕ → List ℕ → ℕ → Type 0
Tells slots places below =
    (n : ℕ) → n < below → n < length slots → slice_index_or places (slice_index_or slots n 0) 0 ≡ n

-- the places of these slots are all told
pub record AreSlots (slots places : List ℕ) : Type 0 where
  pub few : length slots ≤ MAX_PATHS
  pub many : length places ≡ length slots
  pub inside : All (λ slot. slot < length places) slots
  pub told : Tells slots places (length slots)

-- so they are, and so many of the slots are used
pub record AreUsed (used : ℕ) (slots places : List ℕ) : Type 0 where
  pub within : used ≤ length slots
  pub slots_are : AreSlots slots places

-- no slot stands twice in a list
abbrev pub EntriesDiffer : List Entry → Type 0
EntriesDiffer list = AllPairs (λ (a b : Entry). a.slot ≢ b.slot) list

-- a list without a slot
abbrev pub without : ℕ → List Entry → List Entry
without slot list = filter (λ (e : Entry). not (e.slot == slot)) list

-- the list of a port has room for one more
abbrev pub HasRoom : List (Vec Entry) → ℕ → Type 0
HasRoom lists port =
    (d : Vec Entry) → vec_len (slice_index_or lists port d) + 1 ≤ vec_capacity (slice_index_or lists port d)

-- each list of a port on the path has the entry of the port more, at its end; the others are as they were
pub record Enters (entry : ℕ → Entry) (path : List ℕ) (old new : List (List Entry)) : Type 0 where
  pub count : length new ≡ length old
  pub each : (port : ℕ) (d : List Entry) → port < length old → slice_index_or new port d
      ≡ (if has_port port path then slice_index_or old port d ++ entry port ∷ [] else slice_index_or old port d)

-- no list of a port on the path has this slot; the others are as they were
pub record Leaves (slot : ℕ) (path : List ℕ) (old new : List (List Entry)) : Type 0 where
  pub count : length new ≡ length old
  pub each : (port : ℕ) (d : List Entry) → port < length old → slice_index_or new port d
      ≡ (if has_port port path then without slot (slice_index_or old port d) else slice_index_or old port d)
