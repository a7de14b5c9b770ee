use Rattle.ats_file_examples.proofs.FlowsWritten.{flows_are_written}
use Rattle.ats_file_examples.proofs.laws.flows_are_written.Goals as goal

pub returns : goal.returns
returns c = flows_are_written
