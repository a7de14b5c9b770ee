use Rattle.ats_command_law.proofs.SettingsMeanings.{settings_mean}
use Rattle.ats_command_law.proofs.laws.what_settings_answers.Goals as goal

pub returns : goal.returns
returns c = settings_mean
