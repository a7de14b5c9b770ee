use Rattle.ats_text_examples.proofs.ShapeTold.{shapes_are_told}
use Rattle.ats_text_examples.proofs.laws.shapes_are_told.Goals as goal

pub returns : goal.returns
returns c = shapes_are_told
