use Rattle.ats_plain_answer_law.proofs.JudgedProofs.{judging_is_answered}
use Rattle.ats_plain_answer_law.proofs.laws.judging_is_answered.Goals as goal

pub returns : goal.returns
returns c = judging_is_answered
