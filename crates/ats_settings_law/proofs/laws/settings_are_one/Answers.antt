use Rattle.ats_settings_law.proofs.Only.{settings_are_one}
use Rattle.ats_settings_law.proofs.laws.settings_are_one.Goals as goal

pub returns : goal.returns
returns c = settings_are_one
