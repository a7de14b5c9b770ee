use Rattle.ats_answer_law.proofs.Refused.{faults_leave_none}
use Rattle.ats_answer_law.proofs.laws.faults_leave_none.Goals as goal

pub returns : goal.returns
returns c = faults_leave_none
