use Rattle.ats_own_examples.proofs.BoundProofs.{bounds_are_worked}
use Rattle.ats_own_examples.proofs.laws.bounds_are_worked.Goals as goal

pub returns : goal.returns
returns c = bounds_are_worked
