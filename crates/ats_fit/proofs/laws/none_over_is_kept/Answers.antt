use Rattle.ats_fit.proofs.OverLaw.{none_over}
use Rattle.ats_fit.proofs.laws.none_over_is_kept.Goals as goal

pub returns : goal.returns
returns c = none_over
