use Rattle.ats_number_examples.proofs.ToldProofs.{numbers_are_told}
use Rattle.ats_number_examples.proofs.laws.numbers_are_told.Goals as goal

pub returns : goal.returns
returns c = numbers_are_told
