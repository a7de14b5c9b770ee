use Rattle.ats_network_file_law.proofs.Several.{ends_make_a_tree}
use Rattle.ats_network_file_law.proofs.laws.ends_make_a_tree.Goals as goal

pub returns : goal.returns
returns c = ends_make_a_tree
