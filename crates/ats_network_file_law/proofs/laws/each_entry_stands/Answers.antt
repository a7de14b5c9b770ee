use Rattle.ats_network_file_law.proofs.Entries.{each_entry_stands}
use Rattle.ats_network_file_law.proofs.laws.each_entry_stands.Goals as goal

pub returns : goal.returns
returns c = each_entry_stands
