use Rattle.ats_fit.proofs.Least.{least_exists}
use Rattle.ats_fit.proofs.laws.least_burst_exists.Goals as goal

pub returns : goal.returns
returns c = least_exists
