use Rattle.ats_answer_law.proofs.Dues.{fit_is_due}
use Rattle.ats_answer_law.proofs.laws.fit_is_due.Goals as goal

pub returns : goal.returns
returns c = fit_is_due c.what_fit_answers.ensures
