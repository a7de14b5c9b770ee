use Rattle.ats_plain_topology_law.proofs.DeclarationProofs.{declarations_are_given}
use Rattle.ats_plain_topology_law.proofs.laws.declarations_are_given.Goals as goal

pub returns : goal.returns
returns c = declarations_are_given
