use Rattle.ats_number_examples.proofs.CountedProofs.{numbers_are_counted}
use Rattle.ats_number_examples.proofs.laws.numbers_are_counted.Goals as goal

pub returns : goal.returns
returns c = numbers_are_counted
