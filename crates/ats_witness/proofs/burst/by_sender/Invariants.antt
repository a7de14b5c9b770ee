use Rattle.std.proofs.Common.{◌≡◌}
use Rattle.ats_witness.specs.Made.{by_sender}
use Rattle.ats_witness.proofs.burst.by_sender.Given as goal

-- the frames of the senders so far
abbrev pub invariant-loop-sender : goal.invariant-loop-sender
invariant-loop-sender l = l.releases.items ≡ by_sender l.network l.port l.class l.sender
