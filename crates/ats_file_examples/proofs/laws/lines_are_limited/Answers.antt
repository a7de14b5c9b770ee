use Rattle.ats_file_examples.proofs.LongLinesRead.{lines_are_limited}
use Rattle.ats_file_examples.proofs.laws.lines_are_limited.Goals as goal

pub returns : goal.returns
returns c = lines_are_limited
