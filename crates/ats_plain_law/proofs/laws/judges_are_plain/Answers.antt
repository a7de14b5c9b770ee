use Rattle.ats_plain_law.proofs.JudgeProofs.{judges_are_plain}
use Rattle.ats_plain_law.proofs.laws.judges_are_plain.Goals as goal

pub returns : goal.returns
returns c = judges_are_plain
