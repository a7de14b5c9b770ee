use Rattle.ats_answer_law.proofs.Dues.{capture_is_due}
use Rattle.ats_answer_law.proofs.laws.capture_is_due.Goals as goal

pub returns : goal.returns
returns c = capture_is_due c.what_capture_answers.ensures
