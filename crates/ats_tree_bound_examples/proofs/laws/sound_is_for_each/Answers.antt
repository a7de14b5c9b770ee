use Rattle.ats_tree_bound_examples.proofs.PromisedProofs.{sound_is_for_each}
use Rattle.ats_tree_bound_examples.proofs.laws.sound_is_for_each.Goals as goal

pub returns : goal.returns
returns c = sound_is_for_each
