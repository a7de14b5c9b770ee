use Rattle.ats_answer_law.proofs.Dues.{witness_is_due}
use Rattle.ats_answer_law.proofs.laws.witness_is_due.Goals as goal

pub returns : goal.returns
returns c = witness_is_due c.what_witness_answers.ensures
