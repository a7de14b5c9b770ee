use Rattle.ats_command_law.proofs.LrqShapeMeanings.{lrq_shape_means}
use Rattle.ats_command_law.proofs.laws.what_lrq_shape_answers.Goals as goal

pub returns : goal.returns
returns c = lrq_shape_means
