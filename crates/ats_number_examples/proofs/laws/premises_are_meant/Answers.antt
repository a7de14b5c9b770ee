use Rattle.ats_number_examples.proofs.PartsMeant.{premises_are_meant}
use Rattle.ats_number_examples.proofs.laws.premises_are_meant.Goals as goal

pub returns : goal.returns
returns c = premises_are_meant
