use Rattle.ats_tree_examples.proofs.BoundProofs.{reasons_name_listeners}
use Rattle.ats_tree_examples.proofs.bound_laws.reasons_name_listeners.Goals as goal

pub returns : goal.returns
returns c = reasons_name_listeners
