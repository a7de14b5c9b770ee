use Rattle.ats_answer_law.proofs.Showing.{shape_is_due}
use Rattle.ats_answer_law.proofs.laws.shape_is_due.Goals as goal

pub returns : goal.returns
returns c = shape_is_due
