use Rattle.ats_command_law.proofs.FitMeanings.{fit_means}
use Rattle.ats_command_law.proofs.laws.what_fit_answers.Goals as goal

pub returns : goal.returns
returns c = fit_means c.none_over_is_kept.ensures
