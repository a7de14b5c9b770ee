use Rattle.std.specs.Prelude.{◌≡◌, ◌↔◌, ℕ, ◌-◌, ◌<◌, ◌==◌, ◌&&◌, List, [], ◌∷◌, drop, find, length, map, zip}
use Rattle.std.specs.Prelude.{Some, None, option_map, slice_index_or, unwrap_or}
use Rattle.std.specs.List.{before_first, flat_map, list_any}
use Rattle.ats_streams.specs.Branches.{legs_of, routes_of}
use Rattle.ats_streams.specs.Stream.{DeclaredStream}
use Rattle.ats_topology.specs.Node.{is_station}
use Rattle.ats_topology.specs.Port.{port_at}
use Rattle.ats_topology.specs.Topology.{DeclaredTopology, node_at}
use Rattle.ats_topology.specs.Walks.{IsLeastWalk}
use Rattle.ats_network.specs.Class.{class_at, port_before}
use Rattle.ats_network.specs.Ends.{joins_stations}
use Rattle.ats_network.specs.Listeners.{listeners_by, listeners_of, station_of}
use Rattle.ats_network.specs.Rates.{ports_to}
use Rattle.ats_network.specs.Sender.{Sender}
use Rattle.ats_network.specs.Shortest.{shortest_of}

-- a sender has at a port the class that stands where the port first stands among its ports, and 0 at other ports; the
-- port before one is the first that has it for its next on one of the sender's routes, and a frame comes to a port over
-- those in front of it on the first route that has it
pub record PlacesAreKnown : Type 0 where
  pub class : (s : Sender) (port : ℕ) → class_at s port
      ≡ unwrap_or (option_map (λ (x : ℕ × ℕ). x.1) (find (λ (x : ℕ × ℕ). x.0 == port) (zip s.ports s.classes))) 0
  pub before : (s : Sender) (port : ℕ) → port_before s port
      ≡ option_map (λ (x : ℕ × ℕ). x.0) (find (λ (x : ℕ × ℕ). x.1 == port)
      (flat_map (λ (route : List ℕ). zip route (drop 1 route)) (routes_of s.ports s.branches)))
  pub over : (s : Sender) (port : ℕ) → ports_to s port
      ≡ before_first (λ p. p == port)
      (unwrap_or (find (list_any (λ p. p == port)) (routes_of s.ports s.branches)) [])

-- the way that is computed between two nodes is the least walk, where one has fewer ports than there are nodes; and a
-- route joins stations where its first port leaves one and its last leads to one
pub record WalksAreKnown : Type 0 where
  pub shortest : (topology : DeclaredTopology) (a b : ℕ) (walk : List ℕ)
      → (shortest_of topology a b ≡ Some walk)
      ↔ (IsLeastWalk topology.ports a b walk × (length walk < length topology.nodes))
  pub joins : (topology : DeclaredTopology) (route : List ℕ) → joins_stations topology route
      ≡ (is_station (node_at topology.nodes (port_at topology.ports (slice_index_or route 0 0)).from).kind
      && is_station (node_at topology.nodes
      (port_at topology.ports (slice_index_or route (length route - 1) 0)).to).kind)

-- a stream has a listener for each of its legs, with the route that ends with the leg; the first goes by no name, and
-- each further one by that of the node where its route ends
pub record ListenersAreKnown : Type 0 where
  pub all : (topology : DeclaredTopology) (s : DeclaredStream) → listeners_of topology s
      ≡ listeners_by topology (legs_of s.ports s.branches) (routes_of s.ports s.branches)
  pub some : (topology : DeclaredTopology) (leg route : List ℕ) (legs routes : List (List ℕ))
      → listeners_by topology (leg ∷ legs) (route ∷ routes)
      ≡ record { name = None; leg = leg; route = route }
      ∷ map (λ (x : List ℕ × List ℕ). record { name = Some (station_of topology x.1); leg = x.0; route = x.1 })
      (zip legs routes)
  pub no_leg : (topology : DeclaredTopology) (routes : List (List ℕ)) → listeners_by topology [] routes ≡ []
  pub no_route : (topology : DeclaredTopology) (leg : List ℕ) (legs : List (List ℕ))
      → listeners_by topology (leg ∷ legs) [] ≡ []

pub record WaysAreKnown : Type 0 where
  pub places : PlacesAreKnown
  pub walks : WalksAreKnown
  pub listeners : ListenersAreKnown
