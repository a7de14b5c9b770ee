use Rattle.ats_plain_file_law.proofs.StreamFaultProofs.{stream_faults_are_called}
use Rattle.ats_plain_file_law.proofs.laws.stream_faults_are_called.Goals as goal

pub returns : goal.returns
returns c = stream_faults_are_called
