use Rattle.ats_network_file_law.proofs.EachPort.{each_port_has_its_sender}
use Rattle.ats_network_file_law.proofs.laws.each_port_has_its_sender.Goals as goal

pub returns : goal.returns
returns c = each_port_has_its_sender
