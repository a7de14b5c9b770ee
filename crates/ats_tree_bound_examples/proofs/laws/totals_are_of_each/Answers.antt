use Rattle.ats_tree_bound_examples.proofs.ExplainedProofs.{totals_are_of_each}
use Rattle.ats_tree_bound_examples.proofs.laws.totals_are_of_each.Goals as goal

pub returns : goal.returns
returns c = totals_are_of_each
