use Rattle.ats_answer_law.proofs.Dues.{check_is_due}
use Rattle.ats_answer_law.proofs.laws.check_is_due.Goals as goal

pub returns : goal.returns
returns c = check_is_due c.what_check_answers.ensures
