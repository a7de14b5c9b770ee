use Rattle.ats_plain_bound_law.proofs.ReasonProofs.{reasons_are_reckoned}
use Rattle.ats_plain_bound_law.proofs.laws.reasons_are_reckoned.Goals as goal

pub returns : goal.returns
returns c = reasons_are_reckoned
