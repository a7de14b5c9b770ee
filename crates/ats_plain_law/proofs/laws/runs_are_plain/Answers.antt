use Rattle.ats_plain_law.proofs.RunProofs.{runs_are_plain}
use Rattle.ats_plain_law.proofs.laws.runs_are_plain.Goals as goal

pub returns : goal.returns
returns c = runs_are_plain
