use Rattle.ats_network_file.proofs.Networks.{declared_is_network}
use Rattle.ats_network_file.proofs.laws.each_is_network.Goals as goal

pub returns : goal.returns
returns c = declared_is_network
