use Rattle.ats_fault_examples.proofs.InputsWritten.{inputs_are_written}
use Rattle.ats_fault_examples.proofs.laws.inputs_are_written.Goals as goal

pub returns : goal.returns
returns c = inputs_are_written
