use Rattle.ats_bound.proofs.FirstReason.{first_reason_is_one}
use Rattle.ats_bound.proofs.laws.first_reason_is_one.Goals as goal

pub returns : goal.returns
returns c = first_reason_is_one
