use Rattle.ats_file_examples.proofs.PremisesMet.{premises_are_met}
use Rattle.ats_file_examples.proofs.laws.premises_are_met.Goals as goal

pub returns : goal.returns
returns c = premises_are_met
