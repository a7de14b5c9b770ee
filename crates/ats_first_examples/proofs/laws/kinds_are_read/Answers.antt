use Rattle.ats_first_examples.proofs.KindsRead.{kinds_are_read}
use Rattle.ats_first_examples.proofs.laws.kinds_are_read.Goals as goal

pub returns : goal.returns
returns c = kinds_are_read
