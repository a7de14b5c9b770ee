use Rattle.ats_tree_examples.proofs.CopyProofs.{ways_are_worked}
use Rattle.ats_tree_examples.proofs.run_laws.ways_are_worked.Goals as goal

pub returns : goal.returns
returns c = ways_are_worked
