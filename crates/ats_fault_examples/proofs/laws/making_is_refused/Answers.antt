use Rattle.ats_fault_examples.proofs.InputsWritten.{making_is_refused}
use Rattle.ats_fault_examples.proofs.laws.making_is_refused.Goals as goal

pub returns : goal.returns
returns c = making_is_refused
