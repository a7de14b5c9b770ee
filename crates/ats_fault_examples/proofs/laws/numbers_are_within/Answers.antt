use Rattle.ats_fault_examples.proofs.NumbersWithin.{numbers_are_within}
use Rattle.ats_fault_examples.proofs.laws.numbers_are_within.Goals as goal

pub returns : goal.returns
returns c = numbers_are_within
