use Rattle.ats_fault_examples.proofs.NetworksWritten.{network_faults_are_written}
use Rattle.ats_fault_examples.proofs.laws.network_faults_are_written.Goals as goal

pub returns : goal.returns
returns c = network_faults_are_written
