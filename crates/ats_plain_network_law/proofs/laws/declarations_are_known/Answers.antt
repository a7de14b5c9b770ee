use Rattle.ats_plain_network_law.proofs.DeclarationProofs.{declarations_are_known}
use Rattle.ats_plain_network_law.proofs.laws.declarations_are_known.Goals as goal

pub returns : goal.returns
returns c = declarations_are_known
