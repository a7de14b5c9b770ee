use Rattle.ats_tree_examples.proofs.CopyProofs.{branches_go_by_order}
use Rattle.ats_tree_examples.proofs.run_laws.branches_go_by_order.Goals as goal

pub returns : goal.returns
returns c = branches_go_by_order
