use Rattle.ats_own_examples.proofs.RunProofs.{runs_are_worked}
use Rattle.ats_own_examples.proofs.laws.runs_are_worked.Goals as goal

pub returns : goal.returns
returns c = runs_are_worked
