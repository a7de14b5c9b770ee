use Rattle.ats_tree_bound_examples.proofs.FileOrderProofs.{all_is_in_file_order}
use Rattle.ats_tree_bound_examples.proofs.laws.all_is_in_file_order.Goals as goal

pub returns : goal.returns
returns c = all_is_in_file_order
