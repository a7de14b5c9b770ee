use Rattle.ats_answer_law.proofs.RunSays.{run_answers_are_meant}
use Rattle.ats_answer_law.proofs.say_laws.run_answers_are_meant.Goals as goal

pub returns : goal.returns
returns c = run_answers_are_meant
