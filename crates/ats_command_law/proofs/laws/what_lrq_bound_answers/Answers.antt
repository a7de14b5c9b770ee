use Rattle.ats_command_law.proofs.LrqMeanings.{lrq_bound_means}
use Rattle.ats_command_law.proofs.laws.what_lrq_bound_answers.Goals as goal

pub returns : goal.returns
returns c = lrq_bound_means
