use Rattle.ats_soundness_law.proofs.TrueTime.{certificate_is_sound}
use Rattle.ats_soundness_law.proofs.laws.certificate_is_sound.Goals as goal

pub returns : goal.returns
returns c = certificate_is_sound
