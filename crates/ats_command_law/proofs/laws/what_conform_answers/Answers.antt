use Rattle.ats_command_law.proofs.ConformMeanings.{conform_means}
use Rattle.ats_command_law.proofs.laws.what_conform_answers.Goals as goal

pub returns : goal.returns
returns c = conform_means
