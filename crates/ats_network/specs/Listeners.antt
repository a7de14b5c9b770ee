use Rattle.std.specs.Prelude.{ℕ, ◌-◌, List, [], ◌∷◌, ◌++◌, length, codes, Option, Some, None, slice_index_or}
use Rattle.ats_topology.specs.Port.{port_at}
use Rattle.ats_topology.specs.Topology.{DeclaredTopology, node_at}
use Rattle.ats_topology.specs.declared.port.Port.{Port}
use Rattle.ats_streams.specs.Branches.{legs_of, routes_of}
use Rattle.ats_streams.specs.Stream.{DeclaredStream}

-- the node at which a route ends: the one to which its last port leads
abbrev pub end_of : List Port → List ℕ → ℕ
end_of ports route = (port_at ports (slice_index_or route (length route - 1) 0)).to

-- the name of the node at which a route ends
abbrev pub station_of : DeclaredTopology → List ℕ → List ℕ
station_of topology route = (node_at topology.nodes (end_of topology.ports route)).name

-- a listener of a stream: the ports of its own leg, the route to it from the talker, and, where it is not the first,
-- the name of its node, by which it is told from the first
pub record Listener : Type 0 where
  pub name : Option (List ℕ)
  pub leg : List ℕ
  pub route : List ℕ

-- the listener of this leg, to which this route leads, by its node's name
abbrev pub named_listener : DeclaredTopology → List ℕ → List ℕ → Listener
named_listener topology leg route = record { name = Some (station_of topology route); leg = leg; route = route }

-- a listener for each leg and the route that ends with it
abbrev pub further_listeners : DeclaredTopology → List (List ℕ) → List (List ℕ) → List Listener
further_listeners topology (leg ∷ legs) (route ∷ routes) =
    named_listener topology leg route ∷ further_listeners topology legs routes
further_listeners topology legs routes = []

-- the same, where the first goes by no name
abbrev pub listeners_by : DeclaredTopology → List (List ℕ) → List (List ℕ) → List Listener
listeners_by topology (leg ∷ legs) (route ∷ routes) =
    record { name = None; leg = leg; route = route } ∷ further_listeners topology legs routes
listeners_by topology legs routes = []

-- the listeners of a stream, leg by leg
abbrev pub listeners_of : DeclaredTopology → DeclaredStream → List Listener
listeners_of topology stream =
    listeners_by topology (legs_of stream.ports stream.branches) (routes_of stream.ports stream.branches)

-- how a text names a listener of the stream with this name: the first `NAME`, each further one `NAME STATION`
abbrev pub listener_text : List ℕ → Option (List ℕ) → List ℕ
listener_text stream None = stream
listener_text stream (Some station) = stream ++ codes " " ++ station
