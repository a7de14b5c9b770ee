use Rattle.ats_network_file_law.proofs.FirstSenders.{fault_is_first}
use Rattle.ats_network_file_law.proofs.laws.sender_fault_is_the_first.Goals as goal

pub returns : goal.returns
returns c = fault_is_first
