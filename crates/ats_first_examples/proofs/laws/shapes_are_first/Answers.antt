use Rattle.ats_first_examples.proofs.ShapesFirst.{shapes_are_first}
use Rattle.ats_first_examples.proofs.laws.shapes_are_first.Goals as goal

pub returns : goal.returns
returns c = shapes_are_first
