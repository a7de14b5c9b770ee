use Rattle.ats_exact_examples.proofs.PortProofs.{groups_cross_ports}
use Rattle.ats_exact_examples.proofs.laws.groups_cross_ports.Goals as goal

pub returns : goal.returns
returns c = groups_cross_ports
