use Rattle.ats_clock_law.proofs.TrueTime.{just_shown}
use Rattle.ats_clock_law.proofs.laws.eligible_is_just_shown.Goals as goal

pub returns : goal.returns
returns c = just_shown
