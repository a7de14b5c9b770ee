use Rattle.std.specs.Prelude.{◌≡◌, ℕ, IsTrue, List}
use Rattle.ats_topology.specs.Node.{is_station}
use Rattle.ats_topology.specs.Topology.{HasIdealClocks, node_at}
use Rattle.ats_network.specs.Network.{DeclaredNetwork, IsNetwork}
use Rattle.ats_trace.specs.Clocks.{IsLegal}
use Rattle.ats_trace.specs.Journey.{Travel}
use Rattle.ats_trace.specs.Run.{IsIdeal}
use Rattle.ats_trace.specs.Talker.{read_by}
use Rattle.ats_trace.specs.declared.journey.Release.{Release}

-- a run is legal with clocks that show true time
pub record IsLegalInTrueTime (network : DeclaredNetwork) (run : List Travel) : Type 0 where
  pub legal : IsLegal network run
  pub true_time : (node t : ℕ) → legal.clocks node t ≡ t

-- so is each run in which all nodes read true time
abbrev pub TrueTimeIsLegal : Type 0
TrueTimeIsLegal =
    (network : DeclaredNetwork) (run : List Travel) → IsNetwork network → IsIdeal network run
    → IsLegalInTrueTime network run

-- and where each node goes by the ideal clock, each legal run is such a run
abbrev pub IdealClocksShowTrueTime : Type 0
IdealClocksShowTrueTime =
    (network : DeclaredNetwork) (run : List Travel) → IsNetwork network → HasIdealClocks network.topology
    → IsLegal network run → IsIdeal network run

-- releases as the clock of a station shows them are these releases
abbrev pub StationsReadTrueTime : Type 0
StationsReadTrueTime =
    (network : DeclaredNetwork) (run : List Travel) (legal : IsLegal network run) (node : ℕ) (releases : List Release)
    → IsTrue (is_station (node_at network.topology.nodes node).kind)
    → read_by (legal.clocks node) releases ≡ releases
