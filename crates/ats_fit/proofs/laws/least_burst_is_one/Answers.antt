use Rattle.ats_fit.proofs.Least.{least_is_one}
use Rattle.ats_fit.proofs.laws.least_burst_is_one.Goals as goal

pub returns : goal.returns
returns c = least_is_one
