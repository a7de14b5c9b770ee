use Rattle.ats_settings_law.proofs.Told.{each_setting_is_true}
use Rattle.ats_settings_law.proofs.laws.each_setting_is_true.Goals as goal

pub returns : goal.returns
returns c = each_setting_is_true
