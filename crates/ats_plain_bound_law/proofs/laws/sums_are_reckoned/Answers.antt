use Rattle.ats_plain_bound_law.proofs.SumProofs.{sums_are_reckoned}
use Rattle.ats_plain_bound_law.proofs.laws.sums_are_reckoned.Goals as goal

pub returns : goal.returns
returns c = sums_are_reckoned
