use Rattle.ats_checker.proofs.InTime.{sound_is_in_time}
use Rattle.ats_checker.proofs.laws.sound_is_in_time.Goals as goal

pub returns : goal.returns
returns g c = sound_is_in_time g.R.TalkerRule.kept
