use Rattle.ats_call_examples.proofs.JudgedByOne.{shape_is_answered}
use Rattle.ats_call_examples.proofs.laws.shape_is_answered.Goals as goal

pub returns : goal.returns
returns c = shape_is_answered
