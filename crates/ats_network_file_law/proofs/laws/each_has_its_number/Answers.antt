use Rattle.ats_network_file_law.proofs.FormatNumber.{each_has_its_number}
use Rattle.ats_network_file_law.proofs.laws.each_has_its_number.Goals as goal

pub returns : goal.returns
returns c = each_has_its_number
