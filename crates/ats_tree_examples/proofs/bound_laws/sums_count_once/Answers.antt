use Rattle.ats_tree_examples.proofs.BoundProofs.{sums_count_once}
use Rattle.ats_tree_examples.proofs.bound_laws.sums_count_once.Goals as goal

pub returns : goal.returns
returns c = sums_count_once
