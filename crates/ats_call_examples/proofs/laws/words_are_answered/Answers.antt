use Rattle.ats_call_examples.proofs.Made.{words_are_answered}
use Rattle.ats_call_examples.proofs.laws.words_are_answered.Goals as goal

pub returns : goal.returns
returns c = words_are_answered
