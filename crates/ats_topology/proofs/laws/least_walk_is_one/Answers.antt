use Rattle.ats_topology.proofs.LawLemmas.{walk_is_one}
use Rattle.ats_topology.proofs.laws.least_walk_is_one.Goals as goal

pub returns : goal.returns
returns c = walk_is_one
