use Rattle.ats_network_file.proofs.Networks.{declared_has_one_listener}
use Rattle.ats_network_file.proofs.laws.each_has_one_listener.Goals as goal

pub returns : goal.returns
returns c = declared_has_one_listener
