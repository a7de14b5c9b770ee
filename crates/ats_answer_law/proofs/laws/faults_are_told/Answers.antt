use Rattle.ats_answer_law.proofs.FaultLines.{faults_are_told}
use Rattle.ats_answer_law.proofs.laws.faults_are_told.Goals as goal

pub returns : goal.returns
returns c = faults_are_told
