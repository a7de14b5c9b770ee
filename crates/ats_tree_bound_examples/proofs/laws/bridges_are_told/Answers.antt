use Rattle.ats_tree_bound_examples.proofs.SettingsProofs.{bridges_are_told}
use Rattle.ats_tree_bound_examples.proofs.laws.bridges_are_told.Goals as goal

pub returns : goal.returns
returns c = bridges_are_told
