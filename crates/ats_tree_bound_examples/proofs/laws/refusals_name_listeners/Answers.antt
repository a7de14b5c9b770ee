use Rattle.ats_tree_bound_examples.proofs.RefusalProofs.{refusals_name_listeners}
use Rattle.ats_tree_bound_examples.proofs.laws.refusals_name_listeners.Goals as goal

pub returns : goal.returns
returns c = refusals_name_listeners
