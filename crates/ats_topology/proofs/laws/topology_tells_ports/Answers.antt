use Rattle.ats_topology.proofs.Rules.{ports_are_lawful}
use Rattle.ats_topology.proofs.laws.topology_tells_ports.Goals as goal

pub returns : goal.returns
returns c = ports_are_lawful
