use Rattle.ats_exact_examples.proofs.FaultProofs.{faults_are_first}
use Rattle.ats_exact_examples.proofs.laws.faults_are_first.Goals as goal

pub returns : goal.returns
returns c = faults_are_first
