use Rattle.ats_tree_examples.proofs.TreeProofs.{routes_are_worked}
use Rattle.ats_tree_examples.proofs.network_laws.routes_are_worked.Goals as goal

pub returns : goal.returns
returns c = routes_are_worked
