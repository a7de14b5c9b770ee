use Rattle.std.proofs.Common.{take}
use Rattle.ats_topology.specs.Topology.{AreIdeal}
use Rattle.ats_topology.proofs.clocks.have_ideal_clocks.Given as goal

-- the nodes so far go by the ideal clock
abbrev pub invariant-loop-node : goal.invariant-loop-node
invariant-loop-node l = AreIdeal (take l.node-index l.nodes)
