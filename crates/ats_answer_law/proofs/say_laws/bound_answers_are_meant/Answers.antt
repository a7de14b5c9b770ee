use Rattle.ats_answer_law.proofs.BoundSays.{bound_answers_are_meant}
use Rattle.ats_answer_law.proofs.say_laws.bound_answers_are_meant.Goals as goal

pub returns : goal.returns
returns c = bound_answers_are_meant
