use Rattle.std.proofs.Common.{◌≡◌, None, take}
use Rattle.std.specs.List.{find}
use Rattle.ats_topology.specs.Port.{leaving, port_at}
use Rattle.ats_topology.specs.Search.{distance, is_at}
use Rattle.ats_topology.proofs.walks.first_port.Given as goal

-- none of the ports so far leads to a node with this distance
abbrev pub invariant-loop-port : goal.invariant-loop-port
invariant-loop-port l = find (λ p. is_at l.far (distance l.distances (port_at l.table.ports p).to))
    (take l.port-index (leaving l.node l.table.ports)) ≡ None
