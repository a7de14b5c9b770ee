use Rattle.ats_answer_law.proofs.Promised.{promises_are_sound}
use Rattle.ats_answer_law.proofs.laws.promises_are_sound.Goals as goal

pub returns : goal.returns
returns c = promises_are_sound
