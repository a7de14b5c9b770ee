use Rattle.ats_tree_examples.proofs.ServedProofs.{branches_count, stay_counts}
use Rattle.ats_tree_examples.proofs.soundness_laws.branches_count.Goals as goal

pub returns : goal.returns
returns c = record { bursts = branches_count; stay = stay_counts }
