use Rattle.ats_tree_examples.proofs.TreeProofs.{least_walks_are_worked}
use Rattle.ats_tree_examples.proofs.network_laws.least_walks_are_worked.Goals as goal

pub returns : goal.returns
returns c = least_walks_are_worked
