use Rattle.std.specs.Prelude.{◌≡◌, ◌≢◌, ℕ, ◌<◌, ◌≤◌, ◌⊎◌, List, length, drop, find, Option, Some, slice_index_or}
use Rattle.std.specs.Prelude.{if◌then◌else◌}
use Rattle.ats_class_table.specs.Table.{Table, value_at}
use Rattle.ats_network.specs.Class.{PortSender}
use Rattle.ats_network.specs.Network.{DeclaredNetwork, IsNetwork, senders_of}
use Rattle.ats_certificate.specs.PortSums.{port_sums}
use Rattle.ats_certificate.specs.declared.row.Row.{Row}
use Rattle.ats_bound.specs.Least.{least_certificate}
use Rattle.ats_explain.specs.Senders.{is_lower_of, name_of, sends_lower}
use Rattle.ats_explain.specs.Margins.{margins_of}
use Rattle.ats_explain.specs.declared.margin.Margin.{Margin}

-- a table has, at each port in each class from 1 to 7, the name of the first sender of the longest lower frame, of the
-- senders from this number on
pub record NamesFrom (network : DeclaredNetwork) (from : ℕ) (table : Table (Option (List ℕ))) : Type 0 where
  pub count : table.ports ≡ length network.topology.ports
  pub each : (port class : ℕ) → port < length network.topology.ports → 1 ≤ class → class ≤ 7
      → value_at table port class
      ≡ Some (name_of (find (sends_lower network.topology port class (port_sums network port class).lower)
      (drop from (senders_of network))))

-- at a port, the classes below one have this sender's name where its longest frame is the longest lower one
pub record NamesAt (network : DeclaredNetwork) (port : ℕ) (sender : PortSender) (name : List ℕ) (below : ℕ)
    (old new : Table (Option (List ℕ))) : Type 0 where
  pub count : new.ports ≡ old.ports
  pub named : (class : ℕ) → 1 ≤ class → class < below
      → value_at new port class
      ≡ (if is_lower_of class (port_sums network port class).lower sender then Some (Some name)
      else value_at old port class)
  pub kept : (p class : ℕ) → (p ≢ port) ⊎ (below ≤ class) → value_at new p class ≡ value_at old p class

-- a table for so many ports has, at the port and class of each of the first rows, below this place, the row's place
pub record ArePlaced (ports : ℕ) (rows : List Row) (below : ℕ) (table : Table ℕ) : Type 0 where
  pub count : table.ports ≡ ports
  pub each : (place : ℕ) (d : Row) → place < below → value_at table (slice_index_or rows place d).port
      (slice_index_or rows place d).class ≡ Some place

-- what an explanation holds: the least certificate, with the place of each row, the names of all senders of longest
-- lower frames, and the margins
pub record HoldsExplanation (network : DeclaredNetwork) (rows : List Row) (places : Table ℕ)
    (names : Table (Option (List ℕ))) (margins : List Margin) : Type 0 where
  pub rules : IsNetwork network
  pub least : rows ≡ least_certificate network
  pub placed : ArePlaced (length network.topology.ports) rows (length rows) places
  pub named : NamesFrom network 0 names
  pub summed : margins ≡ margins_of network
