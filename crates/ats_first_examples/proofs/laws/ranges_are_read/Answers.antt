use Rattle.ats_first_examples.proofs.RangesRead.{ranges_are_read}
use Rattle.ats_first_examples.proofs.laws.ranges_are_read.Goals as goal

pub returns : goal.returns
returns c = ranges_are_read
