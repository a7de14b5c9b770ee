use Rattle.ats_reading_examples.proofs.EachTextProofs.{texts_are_declared}
use Rattle.ats_reading_examples.proofs.laws.texts_are_declared.Goals as goal

pub returns : goal.returns
returns c = texts_are_declared
