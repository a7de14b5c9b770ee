use Rattle.std.specs.Prelude.{ℕ, Bool, ◌&&◌, List, slice_index_or}
use Rattle.ats_topology.specs.Node.{is_station}
use Rattle.ats_topology.specs.Port.{port_at}
use Rattle.ats_topology.specs.Topology.{DeclaredTopology, node_at}
use Rattle.ats_topology.specs.declared.port.Port.{Port}
use Rattle.ats_network.specs.Listeners.{end_of}

-- the node at which a route begins: the one that its first port leaves
abbrev pub beginning_of : List Port → List ℕ → ℕ
beginning_of ports route = (port_at ports (slice_index_or route 0 0)).from

-- a route begins and ends at stations
abbrev pub joins_stations : DeclaredTopology → List ℕ → Bool
joins_stations topology route = is_station (node_at topology.nodes (beginning_of topology.ports route)).kind
    && is_station (node_at topology.nodes (end_of topology.ports route)).kind
