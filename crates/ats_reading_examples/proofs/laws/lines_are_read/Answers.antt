use Rattle.ats_reading_examples.proofs.LineProofs.{lines_are_read}
use Rattle.ats_reading_examples.proofs.laws.lines_are_read.Goals as goal

pub returns : goal.returns
returns c = lines_are_read
