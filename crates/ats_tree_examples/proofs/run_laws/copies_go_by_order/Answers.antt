use Rattle.ats_tree_examples.proofs.CopyProofs.{copies_go_by_order}
use Rattle.ats_tree_examples.proofs.run_laws.copies_go_by_order.Goals as goal

pub returns : goal.returns
returns c = copies_go_by_order
