use Rattle.ats_network.proofs.SenderLemmas.{each_sender_has_path}
use Rattle.ats_network.proofs.laws.each_sender_has_path.Goals as goal

pub returns : goal.returns
returns c = each_sender_has_path
