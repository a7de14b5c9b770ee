use Rattle.ats_network_file.proofs.Networks.{most_ports_are_of_format}
use Rattle.ats_network_file.proofs.laws.most_ports_are_of_format.Goals as goal

pub returns : goal.returns
returns c = most_ports_are_of_format
