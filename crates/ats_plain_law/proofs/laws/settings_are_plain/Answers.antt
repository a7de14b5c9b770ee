use Rattle.ats_plain_law.proofs.SettingProofs.{settings_are_plain}
use Rattle.ats_plain_law.proofs.laws.settings_are_plain.Goals as goal

pub returns : goal.returns
returns c = settings_are_plain
