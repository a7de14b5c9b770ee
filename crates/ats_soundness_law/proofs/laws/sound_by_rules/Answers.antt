use Rattle.ats_soundness_law.proofs.Soundness.{sound_by_rules}
use Rattle.ats_soundness_law.proofs.laws.sound_by_rules.Goals as goal

pub returns : goal.returns
returns c = sound_by_rules
