use Rattle.ats_found_examples.proofs.BurstProofs.{burst_is_of_hop}
use Rattle.ats_found_examples.proofs.laws.burst_is_of_hop.Goals as goal

pub returns : goal.returns
returns c = burst_is_of_hop c.burst_is_one.ensures
