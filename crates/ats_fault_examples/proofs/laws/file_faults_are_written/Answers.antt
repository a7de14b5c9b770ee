use Rattle.ats_fault_examples.proofs.FilesWritten.{file_faults_are_written}
use Rattle.ats_fault_examples.proofs.laws.file_faults_are_written.Goals as goal

pub returns : goal.returns
returns c = file_faults_are_written
