use Rattle.ats_tree_bound_examples.proofs.TextProofs.{bounds_are_written}
use Rattle.ats_tree_bound_examples.proofs.laws.bounds_are_written.Goals as goal

pub returns : goal.returns
returns c = bounds_are_written
