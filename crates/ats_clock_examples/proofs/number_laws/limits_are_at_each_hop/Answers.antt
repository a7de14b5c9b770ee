use Rattle.ats_clock_examples.proofs.LimitProofs.{limits_are_at_each_hop}
use Rattle.ats_clock_examples.proofs.number_laws.limits_are_at_each_hop.Goals as goal

pub returns : goal.returns
returns c = limits_are_at_each_hop
