use Rattle.ats_lrq.proofs.Distances.{time_least}
use Rattle.ats_lrq.proofs.laws.eligibility_time_is_least.Goals as goal

pub returns : goal.returns
returns c = time_least
