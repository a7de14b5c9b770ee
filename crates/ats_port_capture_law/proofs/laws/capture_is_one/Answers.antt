use Rattle.ats_port_capture_law.proofs.One.{capture_is_one}
use Rattle.ats_port_capture_law.proofs.laws.capture_is_one.Goals as goal

pub returns : goal.returns
returns c = capture_is_one
