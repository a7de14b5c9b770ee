use Rattle.ats_answer_law.proofs.Dues.{conform_is_due}
use Rattle.ats_answer_law.proofs.laws.conform_is_due.Goals as goal

pub returns : goal.returns
returns c = conform_is_due c.what_conform_answers.ensures
