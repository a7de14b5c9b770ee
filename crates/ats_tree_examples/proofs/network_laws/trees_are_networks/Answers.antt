use Rattle.ats_tree_examples.proofs.TreeProofs.{trees_are_networks}
use Rattle.ats_tree_examples.proofs.network_laws.trees_are_networks.Goals as goal

pub returns : goal.returns
returns c = trees_are_networks
