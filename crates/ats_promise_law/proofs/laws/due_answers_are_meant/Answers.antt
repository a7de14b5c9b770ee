use Rattle.ats_promise_law.proofs.ToldMeant.{due_answers_are_meant}
use Rattle.ats_promise_law.proofs.laws.due_answers_are_meant.Goals as goal

pub returns : goal.returns
returns c = due_answers_are_meant
