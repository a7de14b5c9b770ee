use Rattle.ats_examples.proofs.LegalProofs.{bridged_legal, babbler_legal}
use Rattle.ats_examples.proofs.run_laws.bridged_are_legal.Goals as goal

pub returns : goal.returns
returns c = record { bridged = bridged_legal; babbler = babbler_legal }
