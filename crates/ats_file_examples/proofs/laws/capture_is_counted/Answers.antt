use Rattle.ats_file_examples.proofs.CaptureRead.{capture_is_counted}
use Rattle.ats_file_examples.proofs.laws.capture_is_counted.Goals as goal

pub returns : goal.returns
returns c = capture_is_counted
