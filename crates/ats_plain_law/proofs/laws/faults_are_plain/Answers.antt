use Rattle.ats_plain_law.proofs.FaultProofs.{faults_are_plain}
use Rattle.ats_plain_law.proofs.laws.faults_are_plain.Goals as goal

pub returns : goal.returns
returns c = faults_are_plain
