use Rattle.ats_answer_examples.proofs.WordsNone.{words_are_none}
use Rattle.ats_answer_examples.proofs.laws.words_are_none.Goals as goal

pub returns : goal.returns
returns c = words_are_none
