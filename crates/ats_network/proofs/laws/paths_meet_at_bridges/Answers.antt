use Rattle.ats_network.proofs.BridgeLemmas.{meet_at_bridges}
use Rattle.ats_network.proofs.laws.paths_meet_at_bridges.Goals as goal

pub returns : goal.returns
returns c = meet_at_bridges
