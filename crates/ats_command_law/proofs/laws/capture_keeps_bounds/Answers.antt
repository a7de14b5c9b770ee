use Rattle.ats_command_law.proofs.CaptureBounds.{capture_keeps_bounds}
use Rattle.ats_command_law.proofs.laws.capture_keeps_bounds.Goals as goal

pub returns : goal.returns
returns c = capture_keeps_bounds
