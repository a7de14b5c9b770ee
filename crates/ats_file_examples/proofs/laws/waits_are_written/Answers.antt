use Rattle.ats_file_examples.proofs.WaitsWritten.{waits_are_written}
use Rattle.ats_file_examples.proofs.laws.waits_are_written.Goals as goal

pub returns : goal.returns
returns c = waits_are_written
