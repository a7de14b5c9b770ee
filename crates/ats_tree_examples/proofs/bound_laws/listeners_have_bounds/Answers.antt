use Rattle.ats_tree_examples.proofs.BoundProofs.{listeners_have_bounds}
use Rattle.ats_tree_examples.proofs.bound_laws.listeners_have_bounds.Goals as goal

pub returns : goal.returns
returns c = listeners_have_bounds
