use Rattle.ats_witness_examples.proofs.Bursting.{travels_are_worked}
use Rattle.ats_witness_examples.proofs.laws.travels_are_worked.Goals as goal

pub returns : goal.returns
returns c = travels_are_worked
