use Rattle.ats_answer_law.proofs.Dues.{buffers_are_due}
use Rattle.ats_answer_law.proofs.laws.buffers_are_due.Goals as goal

pub returns : goal.returns
returns c = buffers_are_due c.what_buffers_answers.ensures
