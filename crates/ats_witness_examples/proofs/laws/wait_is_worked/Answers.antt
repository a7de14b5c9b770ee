use Rattle.ats_witness_examples.proofs.Greatest.{wait_is_worked}
use Rattle.ats_witness_examples.proofs.laws.wait_is_worked.Goals as goal

pub returns : goal.returns
returns c = wait_is_worked
