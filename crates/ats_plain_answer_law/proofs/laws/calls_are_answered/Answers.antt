use Rattle.ats_plain_answer_law.proofs.CallProofs.{calls_are_answered}
use Rattle.ats_plain_answer_law.proofs.laws.calls_are_answered.Goals as goal

pub returns : goal.returns
returns c = calls_are_answered
