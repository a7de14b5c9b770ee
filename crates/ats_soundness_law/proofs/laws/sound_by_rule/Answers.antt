use Rattle.ats_soundness_law.proofs.Soundness.{sound_by_rule}
use Rattle.ats_soundness_law.proofs.laws.sound_by_rule.Goals as goal

pub returns : goal.returns
returns g c = sound_by_rule g.R.TalkerRule.kept
