use Rattle.ats_exact_examples.proofs.CaptureWordProofs.{capture_bytes_are_meant}
use Rattle.ats_exact_examples.proofs.laws.capture_bytes_are_meant.Goals as goal

pub returns : goal.returns
returns c = capture_bytes_are_meant
