use Rattle.std.proofs.Common.{◌≡◌, ◌+◌, ◌++◌, drop}
use Rattle.ats_network_file.specs.LinkLocal.{flows_at}
use Rattle.ats_network_file.specs.Senders.{placed}
use Rattle.ats_network_file.specs.declared.senders.SenderTable.TheVariants.{LinkLocalFlow}
use Rattle.ats_network_file.proofs.link_local.flows_at_ports.Given as goal

-- the flows so far, in front of those of the entries left, are all
abbrev pub invariant-loop-before : goal.invariant-loop-before
invariant-loop-before l =
    l.flows.items ++ placed (flows_at l.topology) LinkLocalFlow (l.before + 1) (drop l.before l.entries)
    ≡ placed (flows_at l.topology) LinkLocalFlow 1 l.entries
