use Rattle.ats_answer_law.proofs.Dues.{record_is_due}
use Rattle.ats_answer_law.proofs.laws.record_is_due.Goals as goal

pub returns : goal.returns
returns c = record_is_due c.what_record_answers.ensures
