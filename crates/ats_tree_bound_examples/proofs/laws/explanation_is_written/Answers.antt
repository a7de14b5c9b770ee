use Rattle.ats_tree_bound_examples.proofs.TextProofs.{explanation_is_written}
use Rattle.ats_tree_bound_examples.proofs.laws.explanation_is_written.Goals as goal

pub returns : goal.returns
returns c = explanation_is_written
