use Rattle.ats_witness_law.proofs.OneBurst as one
use Rattle.ats_witness_law.proofs.laws.burst_is_one.Goals as goal

pub returns : goal.returns
returns c = one.burst_is_one
