use Rattle.ats_settings_law.proofs.Told.{sizes_pass_alike}
use Rattle.ats_settings_law.proofs.laws.sizes_pass_alike.Goals as goal

pub returns : goal.returns
returns c = sizes_pass_alike
