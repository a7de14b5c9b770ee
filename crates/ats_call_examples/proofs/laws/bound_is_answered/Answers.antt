use Rattle.ats_call_examples.proofs.JudgedByOne.{bound_is_answered}
use Rattle.ats_call_examples.proofs.laws.bound_is_answered.Goals as goal

pub returns : goal.returns
returns c = bound_is_answered
