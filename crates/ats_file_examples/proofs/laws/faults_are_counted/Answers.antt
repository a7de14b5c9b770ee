use Rattle.ats_file_examples.proofs.FaultsCounted.{faults_are_counted}
use Rattle.ats_file_examples.proofs.laws.faults_are_counted.Goals as goal

pub returns : goal.returns
returns c = faults_are_counted
