use Rattle.ats_own_examples.proofs.BurstProofs.{bursts_are_worked}
use Rattle.ats_own_examples.proofs.laws.bursts_are_worked.Goals as goal

pub returns : goal.returns
returns c = bursts_are_worked
