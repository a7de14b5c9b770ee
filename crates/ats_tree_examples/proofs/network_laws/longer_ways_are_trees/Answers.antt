use Rattle.ats_tree_examples.proofs.TreeProofs.{longer_ways_are_trees}
use Rattle.ats_tree_examples.proofs.network_laws.longer_ways_are_trees.Goals as goal

pub returns : goal.returns
returns c = longer_ways_are_trees
