use Rattle.ats_answer_law.proofs.Ordered.{runs_keep_their_order}
use Rattle.ats_answer_law.proofs.laws.runs_keep_their_order.Goals as goal

pub returns : goal.returns
returns c = runs_keep_their_order
