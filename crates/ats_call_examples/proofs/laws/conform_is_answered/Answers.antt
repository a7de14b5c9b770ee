use Rattle.ats_call_examples.proofs.Conformed.{conform_is_answered}
use Rattle.ats_call_examples.proofs.laws.conform_is_answered.Goals as goal

pub returns : goal.returns
returns c = conform_is_answered
