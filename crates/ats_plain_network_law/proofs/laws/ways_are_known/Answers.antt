use Rattle.ats_plain_network_law.proofs.WayProofs.{ways_are_known}
use Rattle.ats_plain_network_law.proofs.laws.ways_are_known.Goals as goal

pub returns : goal.returns
returns c = ways_are_known
