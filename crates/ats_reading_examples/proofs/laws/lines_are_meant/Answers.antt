use Rattle.ats_reading_examples.proofs.EachProofs.{lines_are_meant}
use Rattle.ats_reading_examples.proofs.laws.lines_are_meant.Goals as goal

pub returns : goal.returns
returns c = lines_are_meant
