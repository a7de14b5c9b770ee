use Rattle.ats_answer_law.proofs.Concluded.{conclusions_are_meant}
use Rattle.ats_answer_law.proofs.laws.conclusions_are_meant.Goals as goal

pub returns : goal.returns
returns c = conclusions_are_meant
