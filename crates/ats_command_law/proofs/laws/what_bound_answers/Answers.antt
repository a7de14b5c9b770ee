use Rattle.ats_command_law.proofs.Meanings.{bound_means}
use Rattle.ats_command_law.proofs.laws.what_bound_answers.Goals as goal

pub returns : goal.returns
returns c = bound_means
