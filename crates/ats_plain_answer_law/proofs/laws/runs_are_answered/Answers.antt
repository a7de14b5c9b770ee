use Rattle.ats_plain_answer_law.proofs.RunProofs.{runs_are_answered}
use Rattle.ats_plain_answer_law.proofs.laws.runs_are_answered.Goals as goal

pub returns : goal.returns
returns c = runs_are_answered
