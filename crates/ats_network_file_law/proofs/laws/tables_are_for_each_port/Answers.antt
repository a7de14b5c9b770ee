use Rattle.ats_network_file_law.proofs.LinkLocal.{tables_are_for_each_port}
use Rattle.ats_network_file_law.proofs.laws.tables_are_for_each_port.Goals as goal

pub returns : goal.returns
returns c = tables_are_for_each_port
