use Rattle.ats_port_capture_law.proofs.Answered.{capture_is_read}
use Rattle.ats_port_capture_law.proofs.laws.capture_reads_back.Goals as goal

pub returns : goal.returns
returns c = capture_is_read
