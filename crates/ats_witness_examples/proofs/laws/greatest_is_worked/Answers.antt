use Rattle.ats_witness_examples.proofs.Greatest.{greatest_is_worked}
use Rattle.ats_witness_examples.proofs.laws.greatest_is_worked.Goals as goal

pub returns : goal.returns
returns c = greatest_is_worked
