use Rattle.ats_answer_examples.proofs.Regulators.{lrq_check_is_answered}
use Rattle.ats_answer_examples.proofs.laws.lrq_check_is_answered.Goals as goal

pub returns : goal.returns
returns c = lrq_check_is_answered
