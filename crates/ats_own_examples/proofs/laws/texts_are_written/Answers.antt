use Rattle.ats_own_examples.proofs.TextProofs.{texts_are_written}
use Rattle.ats_own_examples.proofs.laws.texts_are_written.Goals as goal

pub returns : goal.returns
returns c = texts_are_written
