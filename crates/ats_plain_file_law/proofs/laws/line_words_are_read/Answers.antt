use Rattle.ats_plain_file_law.proofs.WordProofs.{line_words_are_read}
use Rattle.ats_plain_file_law.proofs.laws.line_words_are_read.Goals as goal

pub returns : goal.returns
returns c = line_words_are_read
