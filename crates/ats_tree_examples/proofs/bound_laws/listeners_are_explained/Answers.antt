use Rattle.ats_tree_examples.proofs.BoundProofs.{listeners_are_explained}
use Rattle.ats_tree_examples.proofs.bound_laws.listeners_are_explained.Goals as goal

pub returns : goal.returns
returns c = listeners_are_explained
