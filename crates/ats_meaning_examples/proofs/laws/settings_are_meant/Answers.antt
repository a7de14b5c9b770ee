use Rattle.ats_meaning_examples.proofs.SettingsMeant.{settings_are_meant}
use Rattle.ats_meaning_examples.proofs.laws.settings_are_meant.Goals as goal

pub returns : goal.returns
returns c = settings_are_meant
