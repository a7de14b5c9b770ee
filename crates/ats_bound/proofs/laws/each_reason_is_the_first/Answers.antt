use Rattle.ats_bound.proofs.FirstReason.{each_reason_is_the_first}
use Rattle.ats_bound.proofs.laws.each_reason_is_the_first.Goals as goal

pub returns : goal.returns
returns c = each_reason_is_the_first
