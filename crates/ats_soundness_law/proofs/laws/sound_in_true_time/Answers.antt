use Rattle.ats_soundness_law.proofs.TrueTime.{sound_in_true_time}
use Rattle.ats_soundness_law.proofs.laws.sound_in_true_time.Goals as goal

pub returns : goal.returns
returns c = sound_in_true_time
