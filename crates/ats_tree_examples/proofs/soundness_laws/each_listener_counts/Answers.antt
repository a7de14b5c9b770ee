use Rattle.ats_tree_examples.proofs.ServedProofs.{each_listener_counts}
use Rattle.ats_tree_examples.proofs.soundness_laws.each_listener_counts.Goals as goal

pub returns : goal.returns
returns c = each_listener_counts
