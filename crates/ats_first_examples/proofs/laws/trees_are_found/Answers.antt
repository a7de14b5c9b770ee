use Rattle.ats_first_examples.proofs.TreesFound.{trees_are_found}
use Rattle.ats_first_examples.proofs.laws.trees_are_found.Goals as goal

pub returns : goal.returns
returns c = trees_are_found
