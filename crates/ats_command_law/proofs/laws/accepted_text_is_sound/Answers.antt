use Rattle.ats_command_law.proofs.PrintedBounds.{accepted_text_is_sound}
use Rattle.ats_command_law.proofs.laws.accepted_text_is_sound.Goals as goal

pub returns : goal.returns
returns c = accepted_text_is_sound
