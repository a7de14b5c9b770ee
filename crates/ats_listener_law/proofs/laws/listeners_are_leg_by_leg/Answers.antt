use Rattle.ats_listener_law.proofs.Listeners.{listeners_are_leg_by_leg}
use Rattle.ats_listener_law.proofs.laws.listeners_are_leg_by_leg.Goals as goal

pub returns : goal.returns
returns c = listeners_are_leg_by_leg
