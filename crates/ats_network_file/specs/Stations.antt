use Rattle.std.specs.Prelude.{ℕ, List, All}
use Rattle.ats_topology.specs.Topology.{DeclaredTopology, IsStationAt}
use Rattle.ats_streams.specs.Branches.{routes_of}
use Rattle.ats_streams.specs.Stream.{DeclaredStream}
use Rattle.ats_streams.specs.Flow.{DeclaredFlow}
use Rattle.ats_network.specs.Ends.{beginning_of}
use Rattle.ats_network.specs.Listeners.{end_of}
use Rattle.ats_network.specs.Network.{DeclaredNetwork}

-- a route leads from a station to a station
pub record JoinsStations (topology : DeclaredTopology) (route : List ℕ) : Type 0 where
  pub begins : IsStationAt topology (beginning_of topology.ports route)
  pub ends : IsStationAt topology (end_of topology.ports route)

-- so does each route of each stream, and the path of each flow: bridges send and take no frames of their own
pub record JoinStations (network : DeclaredNetwork) : Type 0 where
  pub streams : All (λ (s : DeclaredStream).
      All (JoinsStations network.topology) (routes_of s.ports s.branches)) network.streams
  pub flows : All (λ (f : DeclaredFlow). JoinsStations network.topology f.path) network.flows
