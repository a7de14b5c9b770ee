use Rattle.ats_checker.proofs.FirstRefusal.{each_refusal_is_the_first}
use Rattle.ats_checker.proofs.laws.each_refusal_is_the_first.Goals as goal

pub returns : goal.returns
returns c = each_refusal_is_the_first
