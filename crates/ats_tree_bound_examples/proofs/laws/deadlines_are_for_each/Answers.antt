use Rattle.ats_tree_bound_examples.proofs.InTimeProofs.{deadlines_are_for_each}
use Rattle.ats_tree_bound_examples.proofs.laws.deadlines_are_for_each.Goals as goal

pub returns : goal.returns
returns c = deadlines_are_for_each
