use Rattle.ats_exact_examples.proofs.CaptureProofs.{records_are_read}
use Rattle.ats_exact_examples.proofs.laws.records_are_read.Goals as goal

pub returns : goal.returns
returns c = records_are_read
