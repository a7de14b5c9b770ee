use Rattle.ats_port_capture_law.proofs.WorkedProofs.{port_captures_are_worked}
use Rattle.ats_port_capture_law.proofs.laws.port_captures_are_worked.Goals as goal

pub returns : goal.returns
returns c = port_captures_are_worked
