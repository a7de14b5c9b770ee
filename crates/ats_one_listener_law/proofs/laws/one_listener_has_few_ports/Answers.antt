use Rattle.ats_trace.proofs.FewPorts.{few_ports}
use Rattle.ats_one_listener_law.proofs.laws.one_listener_has_few_ports.Goals as goal

pub returns : goal.returns
returns c = few_ports
