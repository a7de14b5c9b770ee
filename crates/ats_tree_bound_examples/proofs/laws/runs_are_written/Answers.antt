use Rattle.ats_tree_bound_examples.proofs.RunTextProofs.{runs_are_written}
use Rattle.ats_tree_bound_examples.proofs.laws.runs_are_written.Goals as goal

pub returns : goal.returns
returns c = runs_are_written
