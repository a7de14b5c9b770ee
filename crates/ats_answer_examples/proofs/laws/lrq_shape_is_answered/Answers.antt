use Rattle.ats_answer_examples.proofs.Regulators.{lrq_shape_is_answered}
use Rattle.ats_answer_examples.proofs.laws.lrq_shape_is_answered.Goals as goal

pub returns : goal.returns
returns c = lrq_shape_is_answered
