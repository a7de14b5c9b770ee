use Rattle.ats_bucket.proofs.Eligibility.{eligibility_time-is}
use Rattle.ats_bucket.proofs.laws.eligibility_time_is_least.Goals as goal

pub returns : goal.returns
returns c = eligibility_time-is
