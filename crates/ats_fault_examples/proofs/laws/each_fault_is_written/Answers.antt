use Rattle.ats_fault_examples.proofs.EachWritten.{each_fault_is_written}
use Rattle.ats_fault_examples.proofs.laws.each_fault_is_written.Goals as goal

pub returns : goal.returns
returns c = each_fault_is_written
