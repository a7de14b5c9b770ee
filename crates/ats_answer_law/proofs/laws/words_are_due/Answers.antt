use Rattle.ats_answer_law.proofs.Dues.{words_are_due}
use Rattle.ats_answer_law.proofs.laws.words_are_due.Goals as goal

pub returns : goal.returns
returns c = words_are_due
