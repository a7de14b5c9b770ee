use Rattle.ats_network_file_law.proofs.AcceptedSenders.{senders_are_accepted}
use Rattle.ats_network_file_law.proofs.laws.senders_are_accepted.Goals as goal

pub returns : goal.returns
returns c = senders_are_accepted
