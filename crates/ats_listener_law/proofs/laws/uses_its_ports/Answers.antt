use Rattle.ats_listener_law.proofs.Once.{uses_its_ports}
use Rattle.ats_listener_law.proofs.laws.uses_its_ports.Goals as goal

pub returns : goal.returns
returns c = uses_its_ports
