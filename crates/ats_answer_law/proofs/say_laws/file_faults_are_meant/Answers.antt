use Rattle.ats_answer_law.proofs.FileFaults.{file_faults_are_meant}
use Rattle.ats_answer_law.proofs.say_laws.file_faults_are_meant.Goals as goal

pub returns : goal.returns
returns c = file_faults_are_meant
