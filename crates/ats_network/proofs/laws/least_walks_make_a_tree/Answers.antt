use Rattle.ats_network.proofs.LeastTrees.{least_walks_make_a_tree}
use Rattle.ats_network.proofs.laws.least_walks_make_a_tree.Goals as goal

pub returns : goal.returns
returns c = least_walks_make_a_tree
