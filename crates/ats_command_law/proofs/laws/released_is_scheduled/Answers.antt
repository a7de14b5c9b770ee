use Rattle.ats_command_law.proofs.ReleasesBounds.{released_is_scheduled}
use Rattle.ats_command_law.proofs.laws.released_is_scheduled.Goals as goal

pub returns : goal.returns
returns c = released_is_scheduled
