use Rattle.ats_call_examples.proofs.JudgedByOne.{explain_is_answered}
use Rattle.ats_call_examples.proofs.laws.explain_is_answered.Goals as goal

pub returns : goal.returns
returns c = explain_is_answered
