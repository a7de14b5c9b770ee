use Rattle.ats_plain_topology_law.proofs.KeyProofs.{keys_are_given}
use Rattle.ats_plain_topology_law.proofs.laws.keys_are_given.Goals as goal

pub returns : goal.returns
returns c = keys_are_given
