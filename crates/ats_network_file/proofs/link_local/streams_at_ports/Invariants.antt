use Rattle.std.proofs.Common.{◌≡◌, ◌+◌, ◌++◌, drop}
use Rattle.ats_network_file.specs.LinkLocal.{streams_at}
use Rattle.ats_network_file.specs.Senders.{placed}
use Rattle.ats_network_file.specs.declared.senders.SenderTable.TheVariants.{LinkLocal}
use Rattle.ats_network_file.proofs.link_local.streams_at_ports.Given as goal

-- the streams so far, in front of those of the entries left, are all
abbrev pub invariant-loop-before : goal.invariant-loop-before
invariant-loop-before l =
    l.streams.items ++ placed (streams_at l.topology) LinkLocal (l.before + 1) (drop l.before l.entries)
    ≡ placed (streams_at l.topology) LinkLocal 1 l.entries
