use Rattle.ats_network_file_law.proofs.PassedOn.{pass_on}
use Rattle.ats_network_file_law.proofs.laws.faults_are_passed_on.Goals as goal

pub returns : goal.returns
returns c = pass_on
