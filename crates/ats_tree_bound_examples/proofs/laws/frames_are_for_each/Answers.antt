use Rattle.ats_tree_bound_examples.proofs.PromisedProofs.{frames_are_for_each}
use Rattle.ats_tree_bound_examples.proofs.laws.frames_are_for_each.Goals as goal

pub returns : goal.returns
returns c = frames_are_for_each
