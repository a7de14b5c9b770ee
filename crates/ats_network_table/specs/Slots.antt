use Rattle.std.specs.Prelude.{◌≡◌, ℕ, Bool, not, ◌&&◌, ◌==◌, List, [], ◌∷◌, length, slice_index_or}
use Rattle.std.specs.Prelude.{Option, is_some, option_map, None}
use Rattle.std.specs.List.{list_any}
use Rattle.std.specs.Borrow.{Bor}
use Rattle.std.specs.Prelude.{String}
use Rattle.std.specs.declared.alloc.Global.{Global}
use Rattle.toml.specs.Data.{Members, get_member}
use Rattle.toml.specs.View.{view, members_view}
use Rattle.toml.specs.declared.value.Value.{Value}
use Rattle.ats_network_table.specs.Words.{key_text}
use Rattle.ats_network_table.specs.Walk.{has_unknown}
use Rattle.ats_network_table.specs.declared.key.Key.{Key}
use Rattle.ats_network_table.specs.declared.key.Key.TheVariants as key

-- the entries of a table of TOML, as they are held
abbrev pub Entries : Type 0
Entries = List (String Global × Value)

-- all keys, the more frequent ones first
abbrev pub all_keys : List Key
all_keys = key.Name ∷ key.Path ∷ key.Class ∷ key.RateBps ∷ key.BurstBits ∷ key.MinOctets ∷ key.MaxOctets
    ∷ key.From ∷ key.To ∷ key.DeadlineNs ∷ key.Address ∷ key.Vlan ∷ key.A ∷ key.B ∷ key.Mbps ∷ key.PropagationNs
    ∷ key.ProcessingNs ∷ key.ResidenceNs ∷ key.ProcessingMinNs ∷ key.ProcessingMaxNs ∷ key.Classes ∷ key.Paths
    ∷ key.ClockPpm ∷ key.ClockStepPs ∷ key.Format ∷ key.Station ∷ key.Bridge ∷ key.Link ∷ key.Stream ∷ key.LinkLocal
    ∷ key.Flow ∷ key.LinkLocalFlow ∷ []

-- the place of a key among all
abbrev pub slot_of : Key → ℕ
slot_of key.Name = 0
slot_of key.Path = 1
slot_of key.Class = 2
slot_of key.RateBps = 3
slot_of key.BurstBits = 4
slot_of key.MinOctets = 5
slot_of key.MaxOctets = 6
slot_of key.From = 7
slot_of key.To = 8
slot_of key.DeadlineNs = 9
slot_of key.Address = 10
slot_of key.Vlan = 11
slot_of key.A = 12
slot_of key.B = 13
slot_of key.Mbps = 14
slot_of key.PropagationNs = 15
slot_of key.ProcessingNs = 16
slot_of key.ResidenceNs = 17
slot_of key.ProcessingMinNs = 18
slot_of key.ProcessingMaxNs = 19
slot_of key.Classes = 20
slot_of key.Paths = 21
slot_of key.ClockPpm = 22
slot_of key.ClockStepPs = 23
slot_of key.Format = 24
slot_of key.Station = 25
slot_of key.Bridge = 26
slot_of key.Link = 27
slot_of key.Stream = 28
slot_of key.LinkLocal = 29
slot_of key.Flow = 30
slot_of key.LinkLocalFlow = 31

-- one of these keys has this place
abbrev pub is_listed : List Key → ℕ → Bool
is_listed ks slot = list_any (λ k. slot_of k == slot) ks

-- a key stands in the table and is none of these
abbrev pub stands_beside : List Key → Members → Key → Bool
stands_beside ks ms k = is_some (get_member (key_text k) ms) && not (is_listed ks (slot_of k))

-- one of all keys stands in the table and is none of these
abbrev pub has_other : List Key → Members → Bool
has_other ks ms = list_any (stands_beside ks ms) all_keys

-- at the place of each key there is its value, where the table has the key; and whether each member has one of the keys
pub record AreSlots (entries : Entries) (values : List (Option (Bor Value))) (all_named : Bool) : Type 0 where
  pub long : length values ≡ 32
  pub each : (k : Key) → option_map (λ v. view v.now) (slice_index_or values (slot_of k) None)
      ≡ get_member (key_text k) (members_view entries)
  pub named : has_unknown all_keys (members_view entries) ≡ not all_named
