use Rattle.ats_command_law.proofs.ConformBounds.{conform_keeps_bounds}
use Rattle.ats_command_law.proofs.laws.conform_keeps_bounds.Goals as goal

pub returns : goal.returns
returns c = conform_keeps_bounds
