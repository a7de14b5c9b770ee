use Rattle.std.proofs.Common.{◌≡◌, ◌≤◌, take}
use Rattle.ats_network.specs.Network.{senders_of}
use Rattle.ats_witness.specs.Made.{greatest_among}
use Rattle.ats_witness.proofs.burst.greatest_travel.Given as goal

-- the greatest travel of the senders so far
abbrev pub invariant-loop-sender : goal.invariant-loop-sender
invariant-loop-sender l =
    (l.greatest ≡ greatest_among l.network l.port (take l.sender (senders_of l.network)))
    × (l.greatest ≤ 231424000000)
