use Rattle.ats_answer_law.proofs.Dues.{bound_is_due}
use Rattle.ats_answer_law.proofs.laws.bound_is_due.Goals as goal

pub returns : goal.returns
returns c = bound_is_due c.what_bound_answers.ensures
