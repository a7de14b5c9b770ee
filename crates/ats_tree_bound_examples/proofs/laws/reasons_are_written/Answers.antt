use Rattle.ats_tree_bound_examples.proofs.TextProofs.{reasons_are_written}
use Rattle.ats_tree_bound_examples.proofs.laws.reasons_are_written.Goals as goal

pub returns : goal.returns
returns c = reasons_are_written
