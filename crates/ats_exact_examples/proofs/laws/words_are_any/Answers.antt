use Rattle.ats_exact_examples.proofs.AnyWordProofs.{words_are_any}
use Rattle.ats_exact_examples.proofs.laws.words_are_any.Goals as goal

pub returns : goal.returns
returns c = words_are_any
