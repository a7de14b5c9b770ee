use Rattle.ats_network.proofs.SenderLemmas.{each_is_sender}
use Rattle.ats_network.proofs.laws.each_is_sender.Goals as goal

pub returns : goal.returns
returns c = each_is_sender
