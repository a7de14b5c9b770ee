use Rattle.std.proofs.Common.{take}
use Rattle.ats_network.specs.Senders.{sender_at}
use Rattle.ats_tally.proofs.Changed.{ChangesAlong}
use Rattle.ats_tally.proofs.Entries.{counted}
use Rattle.ats_tally.proofs.shares.enter_along.Given as goal

-- the sender is counted at the ports so far
abbrev pub invariant-loop-hop : goal.invariant-loop-hop
invariant-loop-hop l = ChangesAlong (counted l.network.topology (sender_at l.network l.sender) l.initial.shares)
    (sender_at l.network l.sender) (take l.hop (sender_at l.network l.sender).ports) l.initial.shares l.shares
