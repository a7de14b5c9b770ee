use Rattle.ats_clock_law.proofs.PutBack.{leave_in_order}
use Rattle.ats_clock_law.proofs.laws.class_leaves_in_order.Goals as goal

pub returns : goal.returns
returns c = leave_in_order
