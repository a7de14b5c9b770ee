use Rattle.ats_answer_law.proofs.ConclusionsShown.{conclusions_are_shown}
use Rattle.ats_answer_law.proofs.laws.conclusions_are_shown.Goals as goal

pub returns : goal.returns
returns c = conclusions_are_shown
