use Rattle.ats_own_examples.proofs.AskedProofs.{others_are_admitted}
use Rattle.ats_own_examples.proofs.laws.others_are_admitted.Goals as goal

pub returns : goal.returns
returns c = others_are_admitted
