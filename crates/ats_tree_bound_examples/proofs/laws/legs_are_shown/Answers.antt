use Rattle.ats_tree_bound_examples.proofs.TextProofs.{legs_are_shown}
use Rattle.ats_tree_bound_examples.proofs.laws.legs_are_shown.Goals as goal

pub returns : goal.returns
returns c = legs_are_shown
