use Rattle.ats_tree_examples.proofs.ServedProofs.{babblers_are_contained}
use Rattle.ats_tree_examples.proofs.soundness_laws.babblers_are_contained.Goals as goal

pub returns : goal.returns
returns c = babblers_are_contained
