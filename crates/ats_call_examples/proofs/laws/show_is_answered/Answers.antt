use Rattle.ats_call_examples.proofs.JudgedByOne.{show_is_answered}
use Rattle.ats_call_examples.proofs.laws.show_is_answered.Goals as goal

pub returns : goal.returns
returns c = show_is_answered
