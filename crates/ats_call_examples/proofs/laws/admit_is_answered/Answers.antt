use Rattle.ats_call_examples.proofs.JudgedByTwo.{admit_is_answered}
use Rattle.ats_call_examples.proofs.laws.admit_is_answered.Goals as goal

pub returns : goal.returns
returns c = admit_is_answered
