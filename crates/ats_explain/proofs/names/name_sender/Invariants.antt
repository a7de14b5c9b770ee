use Rattle.std.proofs.Common.{take}
use Rattle.ats_network.specs.Senders.{sender_at}
use Rattle.ats_explain.proofs.Named.{NamesAlong}
use Rattle.ats_explain.proofs.names.name_sender.Given as goal

-- the sender is named at the hops so far
abbrev pub invariant-loop-hop : goal.invariant-loop-hop
invariant-loop-hop l = NamesAlong l.tallies (sender_at l.tallies l.sender)
    (take l.hop (sender_at l.tallies l.sender).ports) l.initial.names l.names
