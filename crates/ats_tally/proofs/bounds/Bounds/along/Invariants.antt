use Rattle.ats_network.specs.Sender.{stream_sender}
use Rattle.ats_certificate.specs.Certificate.{bound_of_hop}
use Rattle.ats_tally.proofs.Along.{IsSummed}
use Rattle.ats_tally.proofs.bounds.Bounds.along.Given as goal

-- the sum of the bounds at the ports of the route but those in front of the leg at which it stands
abbrev pub invariant-loop-at : goal.invariant-loop-at
invariant-loop-at l =
    IsSummed (bound_of_hop l.self.rows (stream_sender l.stream)) l.stream.ports l.stream.branches l.leg l.at l.sum

abbrev pub decreases-loop-at : goal.decreases-loop-at
decreases-loop-at l = l.at
