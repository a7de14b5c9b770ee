use Rattle.ats_network_file_law.proofs.Named.{each_sender_is_named}
use Rattle.ats_network_file_law.proofs.laws.each_sender_is_named.Goals as goal

pub returns : goal.returns
returns c = each_sender_is_named
