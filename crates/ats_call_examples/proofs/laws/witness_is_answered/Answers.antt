use Rattle.ats_call_examples.proofs.Witnessed.{witness_is_answered}
use Rattle.ats_call_examples.proofs.laws.witness_is_answered.Goals as goal

pub returns : goal.returns
returns c = witness_is_answered
