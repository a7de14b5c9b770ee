use Rattle.ats_tree_examples.proofs.TreeProofs.{branches_begin_earlier}
use Rattle.ats_tree_examples.proofs.network_laws.branches_begin_earlier.Goals as goal

pub returns : goal.returns
returns c = branches_begin_earlier
