use Rattle.ats_fit.proofs.OverLaw.{measured_is_one}
use Rattle.ats_fit.proofs.laws.measured_is_one.Goals as goal

pub returns : goal.returns
returns c = measured_is_one
