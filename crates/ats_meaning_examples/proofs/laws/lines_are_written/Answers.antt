use Rattle.ats_meaning_examples.proofs.LineParts.{lines_are_written}
use Rattle.ats_meaning_examples.proofs.laws.lines_are_written.Goals as goal

pub returns : goal.returns
returns c = lines_are_written
