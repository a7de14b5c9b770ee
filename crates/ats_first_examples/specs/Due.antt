use Rattle.std.specs.Prelude.{◌≡◌, true, false, not, ◌&&◌, ◌||◌, List, [], ◌∷◌, filter, is_some}
use Rattle.std.specs.List.{list_all, list_any}
use Rattle.toml.specs.Data.{get_member}
use Rattle.ats_network_table.specs.Walk.{Entry, has, is_due, is_missing, lists_classes, may_branch}
use Rattle.ats_network_table.specs.Words.{key_text}
use Rattle.ats_network_table.specs.declared.format.Format.TheVariants.{One, Three, Two}
use Rattle.ats_network_table.specs.declared.key.Key.{Key}
use Rattle.ats_network_table.specs.declared.key.Key.TheVariants as key
use Rattle.ats_network_table.specs.declared.table.Table.{Table}
use Rattle.ats_network_table.specs.declared.table.Table.TheVariants as table

-- Which keys have to stand in a table, key by key, whatever stands in it.

-- the keys that have to stand in each table whose list has them, and those that never have to
abbrev pub always : List Key
always =
    key.Format ∷ key.Name ∷ key.RateBps ∷ key.BurstBits ∷ key.MinOctets ∷ key.MaxOctets ∷ key.A ∷ key.B ∷ key.Mbps
    ∷ key.PropagationNs ∷ key.ProcessingNs ∷ key.ProcessingMinNs ∷ key.ProcessingMaxNs ∷ key.ResidenceNs ∷ []

abbrev pub never : List Key
never =
    key.Station ∷ key.Bridge ∷ key.Link ∷ key.Stream ∷ key.LinkLocal ∷ key.Flow ∷ key.LinkLocalFlow ∷ key.Paths
    ∷ key.Classes ∷ key.DeadlineNs ∷ key.ClockPpm ∷ key.ClockStepPs ∷ []

-- the others: a path has to stand where neither an end does nor, in a table that may have them, paths; a class where
-- classes do not, in a table that may list them; and each of two that go together where the other one does. A key that
-- has to stand and does not is missing
pub record EachIsDue (e : Entry) : Type 0 where
  pub always : list_all (is_due e) always ≡ true
  pub never : list_any (is_due e) never ≡ false
  pub path : is_due e key.Path
      ≡ not (has e key.From || has e key.To || (may_branch e.format e.table && has e key.Paths))
  pub class : is_due e key.Class ≡ not (lists_classes e.table && has e key.Classes)
  pub from : is_due e key.From ≡ has e key.To
  pub to : is_due e key.To ≡ has e key.From
  pub address : is_due e key.Address ≡ has e key.Vlan
  pub vlan : is_due e key.Vlan ≡ has e key.Address
  pub stands : (k : Key) → has e k ≡ is_some (get_member (key_text k) e.members)
  pub missing : (k : Key) → is_missing e k ≡ (is_due e k && not (has e k))

abbrev pub tables : List Table
tables =
    table.Top ∷ table.Station ∷ table.Bridge ∷ table.Link ∷ table.Stream ∷ table.LinkLocal ∷ table.Flow
    ∷ table.LinkLocalFlow ∷ []

-- that of a stream alone may have paths, in format 3, and that of a stream alone lists classes, in each format
pub record StreamsMayHaveSeveral : Type 0 where
  pub one : filter (may_branch One) tables ≡ []
  pub two : filter (may_branch Two) tables ≡ []
  pub three : filter (may_branch Three) tables ≡ table.Stream ∷ []
  pub classes : filter lists_classes tables ≡ table.Stream ∷ []

pub record DueKeysAreMeant : Type 0 where
  pub each : (e : Entry) → EachIsDue e
  pub several : StreamsMayHaveSeveral
