use Rattle.ats_command_law.proofs.FitMeanings.{fit_agrees_with_conform}
use Rattle.ats_command_law.proofs.laws.fit_agrees_with_conform.Goals as goal

pub returns : goal.returns
returns c = fit_agrees_with_conform c.none_over_is_kept.ensures
