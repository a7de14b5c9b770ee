use Rattle.ats_answer_examples.proofs.Regulators.{lrq_bound_is_answered}
use Rattle.ats_answer_examples.proofs.laws.lrq_bound_is_answered.Goals as goal

pub returns : goal.returns
returns c = lrq_bound_is_answered
