use Rattle.ats_network_file_law.proofs.PassedOn.{tables_are_meant}
use Rattle.ats_network_file_law.proofs.laws.tables_are_meant.Goals as goal

pub returns : goal.returns
returns c = tables_are_meant
