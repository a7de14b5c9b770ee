use Rattle.ats_witness_examples.proofs.Greatest.{listeners_are_worked}
use Rattle.ats_witness_examples.proofs.laws.listeners_are_worked.Goals as goal

pub returns : goal.returns
returns c = listeners_are_worked
