-- The users of ports, and the paths of which they are.
use Rattle.std.proofs.Common.{◌≡◌, ℕ, ◌+◌, ◌-◌, ◌<◌, Bool, true, false, cond, List, [], ◌∷◌, ◌++◌, length, get_or, refl}
use Rattle.std.proofs.Common.{sym, ap, subst, ◌∙◌, arith}
use Rattle.std.specs.List.{All, remove}
use Rattle.std.specs.Global.{Vec}
use Rattle.std.proofs.lemmas.List.{length-map, length_push, get_or-map}
use Rattle.std.proofs.lemmas.List.Edits.{length-remove}
use Rattle.ats_admission_users.specs.Users.{UsersState, ListsPaths, entry_at, has_port, users_of}
use Rattle.ats_admission_users.specs.Lists.{items_of, without, AllDiffer, EntriesDiffer, Enters, Leaves}
use Rattle.ats_admission_users.specs.declared.entry.Entry.{Entry}
use Rattle.ats_admission_users.proofs.UserLemmas.{users_have, users_within}
use Rattle.ats_admission_users.proofs.Slots.{slots_at, slots_at-less, slots_at-other, slots_at-push}
use Rattle.ats_admission_users.proofs.Slots.{slots_at-differ, users_listed}

-- no paths
pub none_listed : (ports : ℕ) (lists : List (Vec Entry)) → length lists ≡ ports
    → All (λ (list : Vec Entry). list.items ≡ []) lists
    → ListsPaths ports [] (record { slots = []; lists = items_of lists })
none_listed ports lists count empty = record {
  count = refl;
  ports_are = length-map lists (λ (v : Vec Entry). v.items) ∙ count;
  each = λ port d within. by lists port d (omega (arith, count, within)) empty;
}
  where
    by : (lists : List (Vec Entry)) (port : ℕ) (d : List Entry) → port < length lists
        → All (λ (list : Vec Entry). list.items ≡ []) lists → get_or (items_of lists) port d ≡ []
    by [] port d within empty = absurd (omega (arith, within))
    by (list ∷ lists) port d within empty =
        get_or-map (λ (v : Vec Entry). v.items) (list ∷ lists) port list d within ∙ empty port list within

-- the list of a port
pub list_is : (ports : ℕ) (paths : List (List ℕ)) (users : UsersState) (port : ℕ) (d : List Entry)
    → ListsPaths ports paths users → port < length users.lists
    → get_or users.lists port d ≡ slots_at port paths users.slots
list_is ports paths users port d listed within =
    listed.each port d (omega (arith, within, listed.ports_are)) ∙ users_listed port paths users.slots listed.count

-- the slots in a list differ
pub lists_differ : (ports : ℕ) (paths : List (List ℕ)) (users : UsersState) → ListsPaths ports paths users
    → AllDiffer users.slots → All EntriesDiffer users.lists
lists_differ ports paths users listed differ port d within =
    subst EntriesDiffer (sym (list_is ports paths users port d listed within))
    (slots_at-differ port paths users.slots differ)

-- from the lists by slots those by the paths' numbers
from_lists : (ports : ℕ) (paths : List (List ℕ)) (users : UsersState) → length users.slots ≡ length paths
    → length users.lists ≡ ports
    → ((port : ℕ) (d : List Entry) → port < ports → get_or users.lists port d ≡ slots_at port paths users.slots)
    → ListsPaths ports paths users
from_lists ports paths users count long each = record {
  count = count;
  ports_are = long;
  each = λ port d within. each port d within ∙ sym (users_listed port paths users.slots count);
}

-- a path more at the end
pub listed_push : (ports : ℕ) (paths : List (List ℕ)) (path : List ℕ) (slot : ℕ) (old new : UsersState)
    → ListsPaths ports paths old → new.slots ≡ old.slots ++ slot ∷ []
    → Enters (λ port. entry_at port slot path) path old.lists new.lists
    → ListsPaths ports (paths ++ path ∷ []) new
listed_push ports paths path slot old new listed slots entered =
    from_lists ports (paths ++ path ∷ []) new
    (ap (λ (l : List ℕ). length l) slots ∙ length_push old.slots slot ∙ ap (λ (n : ℕ). n + 1) listed.count
    ∙ sym (length_push paths path))
    (entered.count ∙ listed.ports_are)
    (λ port d within. (
    let inside : port < length old.lists = omega (arith, within, listed.ports_are) in
    entered.each port d inside
    ∙ ap (λ (l : List Entry). cond (has_port port path) (l ++ entry_at port slot path ∷ []) l)
    (list_is ports paths old port d listed inside)
    ∙ sym (ap (slots_at port (paths ++ path ∷ [])) slots
    ∙ slots_at-push port paths old.slots path slot listed.count)))

-- a path less
pub listed_less : (ports : ℕ) (paths : List (List ℕ)) (n : ℕ) (path : List ℕ) (old new : UsersState)
    → ListsPaths ports paths old → AllDiffer old.slots → n < length old.slots → get_or paths n [] ≡ path
    → new.slots ≡ remove old.slots n
    → (All EntriesDiffer old.lists → Leaves (get_or old.slots n 0) path old.lists new.lists)
    → ListsPaths ports (remove paths n) new
listed_less ports paths n path old new listed differ within is slots leaves =
    from_lists ports (remove paths n) new
    (let here = length-remove old.slots n within in
    let there = length-remove paths n (omega (arith, within, listed.count)) in
    let many : length new.slots ≡ length (remove old.slots n) = ap (λ (l : List ℕ). length l) slots in
    omega (arith, here, there, many, listed.count))
    (gone.count ∙ listed.ports_are)
    (λ port d below. (
    let inside : port < length old.lists = omega (arith, below, listed.ports_are) in
    gone.each port d inside
    ∙ ap (λ (l : List Entry). cond (has_port port path) (without (get_or old.slots n 0) l) l)
    (list_is ports paths old port d listed inside)
    ∙ by port (has_port port path) refl
    ∙ sym (ap (slots_at port (remove paths n)) slots)))
  where
    gone : Leaves (get_or old.slots n 0) path old.lists new.lists
    gone = leaves (lists_differ ports paths old listed differ)

    by : (port : ℕ) (b : Bool) → has_port port path ≡ b
        → cond b (without (get_or old.slots n 0) (slots_at port paths old.slots))
        (slots_at port paths old.slots) ≡ slots_at port (remove paths n) (remove old.slots n)
    by port true e = sym (slots_at-less port paths old.slots n listed.count within differ)
    by port false e = sym (slots_at-other port paths old.slots n listed.count within (ap (has_port port) is ∙ e))

-- as many slots at a port as paths that have it
pub count_is : (ports : ℕ) (paths : List (List ℕ)) (users : UsersState) (port : ℕ) (d : List Entry)
    → ListsPaths ports paths users → port < length users.lists
    → length (get_or users.lists port d) ≡ length (users_of paths port)
count_is ports paths users port d listed within =
    ap (λ (l : List Entry). length l) (listed.each port d (omega (arith, within, listed.ports_are)))
    ∙ length-map (users_of paths port) (λ n. entry_at port (get_or users.slots n 0) (get_or paths n []))

-- the path that an entry at a port belongs to
pub record IsUserAt (paths : List (List ℕ)) (users : UsersState) (port place : ℕ) : Type 0 where
  pub within : get_or (users_of paths port) place 0 < length users.slots
  pub below : get_or (users_of paths port) place 0 < length paths
  pub stands : (d : Entry) → get_or (get_or users.lists port []) place d
      ≡ entry_at port (get_or users.slots (get_or (users_of paths port) place 0) 0)
      (get_or paths (get_or (users_of paths port) place 0) [])
  pub has : has_port port (get_or paths (get_or (users_of paths port) place 0) []) ≡ true

pub user_is : (ports : ℕ) (paths : List (List ℕ)) (users : UsersState) (port place : ℕ)
    → ListsPaths ports paths users → port < length users.lists → place < length (get_or users.lists port [])
    → IsUserAt paths users port place
user_is ports paths users port place listed within inside =
    let count : length (get_or users.lists port []) ≡ length (users_of paths port) =
    count_is ports paths users port [] listed within in
    let there : place < length (users_of paths port) = omega (arith, inside, count) in
    let below : get_or (users_of paths port) place 0 < length paths = users_within port paths place 0 there in
    record {
      within = omega (arith, below, listed.count);
      below = below;
      stands = λ d.
          ap (λ (l : List Entry). get_or l place d)
          (listed.each port [] (omega (arith, within, listed.ports_are)))
          ∙ get_or-map (λ n. entry_at port (get_or users.slots n 0) (get_or paths n [])) (users_of paths port) place 0 d
          there;
      has =
          let n : ℕ = get_or (users_of paths port) place 0 in
          let same : n ≡ n - 0 = omega arith in
          ap (λ (k : ℕ). has_port port (get_or paths k [])) same ∙ (users_have 0 port paths place 0 there).has;
    }
