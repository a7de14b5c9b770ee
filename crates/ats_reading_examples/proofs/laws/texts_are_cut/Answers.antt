use Rattle.ats_reading_examples.proofs.CutProofs.{texts_are_cut}
use Rattle.ats_reading_examples.proofs.laws.texts_are_cut.Goals as goal

pub returns : goal.returns
returns c = texts_are_cut
