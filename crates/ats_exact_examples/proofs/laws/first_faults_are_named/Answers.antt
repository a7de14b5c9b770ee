use Rattle.ats_exact_examples.proofs.RecordProofs.{first_faults_are_named}
use Rattle.ats_exact_examples.proofs.laws.first_faults_are_named.Goals as goal

pub returns : goal.returns
returns c = first_faults_are_named
