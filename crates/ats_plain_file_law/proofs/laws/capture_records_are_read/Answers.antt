use Rattle.ats_plain_file_law.proofs.CaptureProofs.{capture_records_are_read}
use Rattle.ats_plain_file_law.proofs.laws.capture_records_are_read.Goals as goal

pub returns : goal.returns
returns c = capture_records_are_read
