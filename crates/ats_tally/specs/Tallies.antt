use Rattle.std.specs.Prelude.{◌≡◌, ◌≢◌, ℕ, ◌<◌, ◌≤◌, List, length, Option, Some, slice_get}
use Rattle.ats_class_table.specs.Table.{Table, value_at}
use Rattle.ats_topology.specs.Topology.{DeclaredTopology}
use Rattle.ats_network.specs.Sender.{Sender}
use Rattle.ats_network.specs.Class.{PortSender}
use Rattle.ats_network.specs.Network.{DeclaredNetwork, IsNetwork, senders_of}
use Rattle.ats_certificate.specs.PortSums.{senders_at}
use Rattle.ats_tally.specs.Tally.{IsTally}
use Rattle.ats_tally.specs.declared.tally.Tally.{Tally}

-- there is a tally, of what these senders make of a class
pub record IsTallied (class : ℕ) (senders : List PortSender) (found : Option Tally) : Type 0 where
  pub tally : Tally
  pub there : found ≡ Some tally
  pub is : IsTally class senders tally

-- a list has what these senders make of each class from 1 to 7, at the class
abbrev pub AreClassTallies : List PortSender → List Tally → Type 0
AreClassTallies senders tallies =
    (class : ℕ) → 1 ≤ class → class ≤ 7 → IsTallied class senders (slice_get tallies class)

-- a table has what these senders make of each class from 1 to 7 at each port of a topology
pub record AreTallies (topology : DeclaredTopology) (senders : List Sender) (tallies : Table Tally) : Type 0 where
  pub count : tallies.ports ≡ length topology.ports
  pub each : (port class : ℕ) → port < length topology.ports → 1 ≤ class → class ≤ 7
      → IsTallied class (senders_at topology port senders) (value_at tallies port class)

-- a network with such a table
pub record AreCounted (network : DeclaredNetwork) (tallies : Table Tally) : Type 0 where
  pub rules : IsNetwork network
  pub counted : AreTallies network.topology (senders_of network) tallies

-- the classes of a port that are below one have these tallies, and those of all other ports stay
pub record SetsTallies (port below : ℕ) (tallies : List Tally) (old new : Table Tally) : Type 0 where
  pub count : new.ports ≡ old.ports
  pub here : (class : ℕ) → class < below → value_at new port class ≡ slice_get tallies class
  pub others : (p class : ℕ) → p ≢ port → value_at new p class ≡ value_at old p class
