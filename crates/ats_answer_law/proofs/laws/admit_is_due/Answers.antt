use Rattle.ats_answer_law.proofs.Dues.{admit_is_due}
use Rattle.ats_answer_law.proofs.laws.admit_is_due.Goals as goal

pub returns : goal.returns
returns c = admit_is_due c.what_admit_answers.ensures
