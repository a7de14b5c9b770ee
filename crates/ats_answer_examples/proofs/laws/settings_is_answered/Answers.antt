use Rattle.ats_answer_examples.proofs.SetAndHeld.{settings_is_answered}
use Rattle.ats_answer_examples.proofs.laws.settings_is_answered.Goals as goal

pub returns : goal.returns
returns c = settings_is_answered
