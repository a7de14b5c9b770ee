use Rattle.ats_command_law.proofs.Meanings.{check_means}
use Rattle.ats_command_law.proofs.laws.what_check_answers.Goals as goal

pub returns : goal.returns
returns c = check_means
