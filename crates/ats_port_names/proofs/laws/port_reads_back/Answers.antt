use Rattle.ats_port_names.proofs.ReadsBack.{port_reads_back}
use Rattle.ats_port_names.proofs.laws.port_reads_back.Goals as goal

pub returns : goal.returns
returns c = port_reads_back
