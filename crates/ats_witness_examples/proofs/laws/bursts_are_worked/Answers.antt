use Rattle.ats_witness_examples.proofs.Bursting.{bursts_are_worked}
use Rattle.ats_witness_examples.proofs.laws.bursts_are_worked.Goals as goal

pub returns : goal.returns
returns c = bursts_are_worked
