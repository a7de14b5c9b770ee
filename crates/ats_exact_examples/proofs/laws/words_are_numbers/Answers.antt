use Rattle.ats_exact_examples.proofs.WordedProofs.{words_are_numbers}
use Rattle.ats_exact_examples.proofs.laws.words_are_numbers.Goals as goal

pub returns : goal.returns
returns c = words_are_numbers
