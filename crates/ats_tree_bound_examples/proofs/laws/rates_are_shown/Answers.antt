use Rattle.ats_tree_bound_examples.proofs.TextProofs.{rates_are_shown}
use Rattle.ats_tree_bound_examples.proofs.laws.rates_are_shown.Goals as goal

pub returns : goal.returns
returns c = rates_are_shown
