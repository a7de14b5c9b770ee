use Rattle.ats_answer_law.proofs.Dues.{explain_is_due}
use Rattle.ats_answer_law.proofs.laws.explain_is_due.Goals as goal

pub returns : goal.returns
returns c = explain_is_due c.what_explain_answers.ensures
