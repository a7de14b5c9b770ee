use Rattle.ats_tree_examples.proofs.CopyProofs.{verdicts_are_one}
use Rattle.ats_tree_examples.proofs.run_laws.verdicts_are_one.Goals as goal

pub returns : goal.returns
returns c = verdicts_are_one
