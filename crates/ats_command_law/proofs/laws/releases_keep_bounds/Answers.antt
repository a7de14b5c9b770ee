use Rattle.ats_command_law.proofs.ReleasesBounds.{releases_keep_bounds}
use Rattle.ats_command_law.proofs.laws.releases_keep_bounds.Goals as goal

pub returns : goal.returns
returns c = releases_keep_bounds
