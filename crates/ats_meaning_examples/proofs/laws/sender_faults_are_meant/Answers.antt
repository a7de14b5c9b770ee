use Rattle.ats_meaning_examples.proofs.FaultedMeant.{sender_faults_are_meant}
use Rattle.ats_meaning_examples.proofs.laws.sender_faults_are_meant.Goals as goal

pub returns : goal.returns
returns c = sender_faults_are_meant
