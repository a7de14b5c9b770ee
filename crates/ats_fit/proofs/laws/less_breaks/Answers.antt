use Rattle.ats_fit.proofs.Least.{less_breaks}
use Rattle.ats_fit.proofs.laws.less_breaks.Goals as goal

pub returns : goal.returns
returns c = less_breaks
