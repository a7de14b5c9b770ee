use Rattle.ats_tree_examples.proofs.CopyProofs.{copies_are_legal}
use Rattle.ats_tree_examples.proofs.run_laws.copies_are_legal.Goals as goal

pub returns : goal.returns
returns c = copies_are_legal
