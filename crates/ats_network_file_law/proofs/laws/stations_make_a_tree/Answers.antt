use Rattle.ats_network_file_law.proofs.Several.{stations_make_a_tree}
use Rattle.ats_network_file_law.proofs.laws.stations_make_a_tree.Goals as goal

pub returns : goal.returns
returns c = stations_make_a_tree
