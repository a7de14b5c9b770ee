use Rattle.ats_settings_law.proofs.Told.{groups_judge_alike}
use Rattle.ats_settings_law.proofs.laws.groups_judge_alike.Goals as goal

pub returns : goal.returns
returns c = groups_judge_alike
