use Rattle.ats_soundness_law.proofs.TrueTime.{sound_by_clocks}
use Rattle.ats_soundness_law.proofs.laws.sound_by_clocks.Goals as goal

pub returns : goal.returns
returns c = sound_by_clocks
