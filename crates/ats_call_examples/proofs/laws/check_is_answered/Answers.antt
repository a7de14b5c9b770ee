use Rattle.ats_call_examples.proofs.JudgedByTwo.{check_is_answered}
use Rattle.ats_call_examples.proofs.laws.check_is_answered.Goals as goal

pub returns : goal.returns
returns c = check_is_answered
