use Rattle.ats_plain_answer_law.proofs.BoundProofs.{bounds_are_answered}
use Rattle.ats_plain_answer_law.proofs.laws.bounds_are_answered.Goals as goal

pub returns : goal.returns
returns c = bounds_are_answered
