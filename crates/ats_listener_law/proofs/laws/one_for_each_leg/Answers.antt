use Rattle.ats_listener_law.proofs.Ways.{one_for_each_leg}
use Rattle.ats_listener_law.proofs.laws.one_for_each_leg.Goals as goal

pub returns : goal.returns
returns c = one_for_each_leg
