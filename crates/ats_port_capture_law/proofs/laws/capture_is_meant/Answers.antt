use Rattle.ats_port_capture_law.proofs.Meant.{capture_is_meant}
use Rattle.ats_port_capture_law.proofs.laws.capture_is_meant.Goals as goal

pub returns : goal.returns
returns c = capture_is_meant
