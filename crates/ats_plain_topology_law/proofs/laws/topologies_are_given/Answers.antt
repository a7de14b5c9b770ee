use Rattle.ats_plain_topology_law.proofs.TopologyProofs.{topologies_are_given}
use Rattle.ats_plain_topology_law.proofs.laws.topologies_are_given.Goals as goal

pub returns : goal.returns
returns c = topologies_are_given
