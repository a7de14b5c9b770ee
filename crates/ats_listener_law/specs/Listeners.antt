use Rattle.std.specs.Prelude.{◌≡◌, ◌≢◌, ℕ, List, ◌∷◌, map, drop, Some, None, All, AllPairs}
use Rattle.ats_streams.specs.Branches.{legs_of, routes_of}
use Rattle.ats_streams.specs.Stream.{DeclaredStream}
use Rattle.ats_topology.specs.Topology.{DeclaredTopology, node_at}
use Rattle.ats_network.specs.Listeners.{Listener, listeners_of, station_of}
use Rattle.ats_network.specs.Network.{DeclaredNetwork, IsNetwork}
use Rattle.ats_network.specs.Path.{IsValidPath}

-- the listeners of a stream are told leg by leg: each has the ports of its leg, and the route that ends with the leg;
-- the first has no name, and each further one that of the node at the end of its route
pub record AreLegByLeg (topology : DeclaredTopology) (stream : DeclaredStream) : Type 0 where
  pub legs : map (λ (l : Listener). l.leg) (listeners_of topology stream) ≡ legs_of stream.ports stream.branches
  pub routes : map (λ (l : Listener). l.route) (listeners_of topology stream) ≡ routes_of stream.ports stream.branches
  pub names : map (λ (l : Listener). l.name) (listeners_of topology stream)
      ≡ None ∷ map (λ route. Some (station_of topology route)) (drop 1 (routes_of stream.ports stream.branches))

-- those of each stream are
abbrev pub ListenersAreLegByLeg : Type 0
ListenersAreLegByLeg = (topology : DeclaredTopology) (stream : DeclaredStream) → AreLegByLeg topology stream

-- the node at the end of a valid path is the one to which the path leads
abbrev pub StationIsAtTheEnd : Type 0
StationIsAtTheEnd = (topology : DeclaredTopology) (route : List ℕ) → (valid : IsValidPath topology route)
    → station_of topology route ≡ (node_at topology.nodes valid.listener).name

-- no two listeners of a stream go by one name
abbrev pub NamesOfListenersDiffer : Type 0
NamesOfListenersDiffer = (network : DeclaredNetwork) → IsNetwork network
    → All (λ (s : DeclaredStream). AllPairs (λ (a b : Listener). a.name ≢ b.name) (listeners_of network.topology s))
    network.streams
