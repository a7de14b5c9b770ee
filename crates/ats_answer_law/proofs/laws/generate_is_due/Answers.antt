use Rattle.ats_answer_law.proofs.Dues.{generate_is_due}
use Rattle.ats_answer_law.proofs.laws.generate_is_due.Goals as goal

pub returns : goal.returns
returns c = generate_is_due c.what_generate_answers.ensures
