use Rattle.std.specs.Prelude.{ℕ, List, [], ◌∷◌, ◌++◌, map, None, codes, decimal}
use Rattle.std.specs.List.{enumerate_from}
use Rattle.ats_topology.specs.Topology.{DeclaredTopology, node_at}
use Rattle.ats_topology.specs.declared.port.Port.{Port}
use Rattle.ats_network_toml.specs.Document as file

-- the name of the sender at a port: that of its entry, `-`, and the port's number
abbrev pub name_at : List ℕ → ℕ → List ℕ
name_at name number = name ++ codes "-" ++ decimal number

-- the route along a port: from the node that it leaves to the one that it leads to
abbrev pub route_along : DeclaredTopology → Port → file.DeclaredRoute
route_along topology port =
    file.path ((node_at topology.nodes port.from).name ∷ (node_at topology.nodes port.to).name ∷ [])

-- the stream that an entry stands for at a port with its number
abbrev pub stream_at : DeclaredTopology → file.DeclaredLinkLocal → ℕ × Port → file.DeclaredStream
stream_at topology e port = record {
  name = name_at e.name port.0;
  routes = route_along topology port.1 ∷ [];
  classes = e.class ∷ [];
  rate_bps = e.rate_bps;
  burst_bits = e.burst_bits;
  min_octets = e.min_octets;
  max_octets = e.max_octets;
  deadline_ns = e.deadline_ns;
  identity = None;
}

-- and the flow
abbrev pub flow_at : DeclaredTopology → file.DeclaredLinkLocalFlow → ℕ × Port → file.DeclaredFlow
flow_at topology e port =
    record { name = name_at e.name port.0; route = route_along topology port.1; max_octets = e.max_octets }

-- the streams that an entry stands for, and the flows: one for each port, in the order of the ports' numbers
abbrev pub streams_at : DeclaredTopology → file.DeclaredLinkLocal → List file.DeclaredStream
streams_at topology e = map (stream_at topology e) (enumerate_from 0 topology.ports)

abbrev pub flows_at : DeclaredTopology → file.DeclaredLinkLocalFlow → List file.DeclaredFlow
flows_at topology e = map (flow_at topology e) (enumerate_from 0 topology.ports)
