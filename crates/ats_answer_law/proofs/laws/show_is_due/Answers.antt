use Rattle.ats_answer_law.proofs.Showing.{show_is_due}
use Rattle.ats_answer_law.proofs.laws.show_is_due.Goals as goal

pub returns : goal.returns
returns c = show_is_due
