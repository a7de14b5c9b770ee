use Rattle.ats_command_law.proofs.PrintedBounds.{printed_bounds_are_sound}
use Rattle.ats_command_law.proofs.laws.printed_bounds_are_sound.Goals as goal

pub returns : goal.returns
returns c = printed_bounds_are_sound
