use Rattle.ats_plain_network_law.proofs.GroupProofs.{groups_are_known}
use Rattle.ats_plain_network_law.proofs.laws.groups_are_known.Goals as goal

pub returns : goal.returns
returns c = groups_are_known
