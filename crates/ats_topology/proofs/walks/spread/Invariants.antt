use Rattle.std.proofs.Common.{take}
use Rattle.ats_topology.specs.Port.{leaving}
use Rattle.ats_topology.specs.Search.{Spreads}
use Rattle.ats_topology.proofs.walks.spread.Given as goal

-- the ports so far
abbrev pub invariant-loop-p : goal.invariant-loop-p
invariant-loop-p l = Spreads l.table.ports (take l.p-index (leaving l.node l.table.ports))
    l.far l.fn.distances.items l.distances.items l.fn.queue.items l.queue.items
