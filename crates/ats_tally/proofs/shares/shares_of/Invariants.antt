use Rattle.std.proofs.Common.{take}
use Rattle.ats_network.specs.Network.{senders_of}
use Rattle.ats_tally.specs.Shares.{AreSharesAt}
use Rattle.ats_tally.proofs.shares.shares_of.Given as goal

-- the senders so far are counted
abbrev pub invariant-loop-sender : goal.invariant-loop-sender
invariant-loop-sender l =
    AreSharesAt l.network.topology (take l.sender (senders_of l.network)) l.shares
