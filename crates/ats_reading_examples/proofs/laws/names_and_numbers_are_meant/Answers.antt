use Rattle.ats_reading_examples.proofs.EachProofs.{names_and_numbers_are_meant}
use Rattle.ats_reading_examples.proofs.laws.names_and_numbers_are_meant.Goals as goal

pub returns : goal.returns
returns c = names_and_numbers_are_meant
