use Rattle.ats_first_examples.proofs.SeveralRead.{several_are_read}
use Rattle.ats_first_examples.proofs.laws.several_are_read.Goals as goal

pub returns : goal.returns
returns c = several_are_read
