use Rattle.ats_trace.proofs.OneListener.{one_leg}
use Rattle.ats_trace.proofs.laws.one_listener_has_one_leg.Goals as goal

pub returns : goal.returns
returns c = one_leg
