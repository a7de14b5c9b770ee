use Rattle.ats_network_file_law.proofs.Named.{each_node_is_named}
use Rattle.ats_network_file_law.proofs.laws.each_node_is_named.Goals as goal

pub returns : goal.returns
returns c = each_node_is_named
