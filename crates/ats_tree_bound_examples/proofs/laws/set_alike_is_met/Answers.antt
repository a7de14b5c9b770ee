use Rattle.ats_tree_bound_examples.proofs.SetAlikeProofs.{set_alike_is_met}
use Rattle.ats_tree_bound_examples.proofs.laws.set_alike_is_met.Goals as goal

pub returns : goal.returns
returns c = set_alike_is_met
