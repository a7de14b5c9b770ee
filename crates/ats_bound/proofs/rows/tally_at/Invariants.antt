use Rattle.std.proofs.Common.{take}
use Rattle.ats_network.specs.Network.{senders_of}
use Rattle.ats_certificate.specs.PortSums.{senders_at}
use Rattle.ats_tally.specs.Tally.{IsTally}
use Rattle.ats_bound.proofs.rows.tally_at.Given as goal

-- what the senders so far make of the class
abbrev pub invariant-loop-sender : goal.invariant-loop-sender
invariant-loop-sender l = IsTally l.class
    (senders_at l.network.topology l.port (take l.sender (senders_of l.network))) l.tally
