use Rattle.std.proofs.Common.{◌≡◌, length, take}
use Rattle.ats_topology.specs.PortTable.{node_ports}
use Rattle.ats_topology.specs.Topology.{ports_of}
use Rattle.ats_topology.proofs.numbering.ports_of.Given as goal

-- the ports of the links so far
abbrev pub invariant-loop-link : goal.invariant-loop-link
invariant-loop-link l = l.table ≡ node_ports (length l.nodes) (ports_of l.nodes (take l.link-index l.links))
