use Rattle.ats_first_examples.proofs.WordsWritten.{words_are_written}
use Rattle.ats_first_examples.proofs.laws.words_are_written.Goals as goal

pub returns : goal.returns
returns c = words_are_written
