use Rattle.ats_clock_law.proofs.TrueTime.{order_kept}
use Rattle.ats_clock_law.proofs.laws.order_is_kept.Goals as goal

pub returns : goal.returns
returns c = order_kept
