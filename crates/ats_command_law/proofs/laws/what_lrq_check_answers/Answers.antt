use Rattle.ats_command_law.proofs.LrqMeanings.{lrq_check_means}
use Rattle.ats_command_law.proofs.laws.what_lrq_check_answers.Goals as goal

pub returns : goal.returns
returns c = lrq_check_means
