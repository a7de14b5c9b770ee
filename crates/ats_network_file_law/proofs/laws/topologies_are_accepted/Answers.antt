use Rattle.ats_network_file_law.proofs.Accepted.{topologies_are_accepted}
use Rattle.ats_network_file_law.proofs.laws.topologies_are_accepted.Goals as goal

pub returns : goal.returns
returns c = topologies_are_accepted
