use Rattle.ats_file_examples.proofs.PortsRead.{ports_are_read}
use Rattle.ats_file_examples.proofs.laws.ports_are_read.Goals as goal

pub returns : goal.returns
returns c = ports_are_read
