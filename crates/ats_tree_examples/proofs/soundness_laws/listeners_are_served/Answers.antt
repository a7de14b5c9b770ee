use Rattle.ats_tree_examples.proofs.ServedProofs.{listeners_are_served}
use Rattle.ats_tree_examples.proofs.soundness_laws.listeners_are_served.Goals as goal

pub returns : goal.returns
returns c = listeners_are_served
