use Rattle.ats_call_examples.proofs.Made.{generate_is_answered}
use Rattle.ats_call_examples.proofs.laws.generate_is_answered.Goals as goal

pub returns : goal.returns
returns c = generate_is_answered
