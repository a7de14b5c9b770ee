use Rattle.ats_answer_examples.proofs.SetAndHeld.{buffers_is_answered}
use Rattle.ats_answer_examples.proofs.laws.buffers_is_answered.Goals as goal

pub returns : goal.returns
returns c = buffers_is_answered
