use Rattle.ats_first_examples.proofs.TopologiesFirst.{topology_faults_are_first}
use Rattle.ats_first_examples.proofs.laws.topology_faults_are_first.Goals as goal

pub returns : goal.returns
returns c = topology_faults_are_first
