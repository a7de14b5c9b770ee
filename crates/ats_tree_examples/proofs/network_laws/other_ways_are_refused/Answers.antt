use Rattle.ats_tree_examples.proofs.TreeProofs.{other_ways_are_refused}
use Rattle.ats_tree_examples.proofs.network_laws.other_ways_are_refused.Goals as goal

pub returns : goal.returns
returns c = other_ways_are_refused
