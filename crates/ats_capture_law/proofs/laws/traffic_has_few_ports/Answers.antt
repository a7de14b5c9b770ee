use Rattle.ats_capture_law.proofs.Runnable.{traffic_has_few_ports}
use Rattle.ats_capture_law.proofs.laws.traffic_has_few_ports.Goals as goal

pub returns : goal.returns
returns c = traffic_has_few_ports
