use Rattle.ats_answer_law.proofs.Dues.{lrq_bound_is_due}
use Rattle.ats_answer_law.proofs.laws.lrq_bound_is_due.Goals as goal

pub returns : goal.returns
returns c = lrq_bound_is_due c.what_lrq_bound_answers.ensures
