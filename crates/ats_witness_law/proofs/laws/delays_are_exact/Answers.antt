use Rattle.ats_witness_law.proofs.LateArrivals as late
use Rattle.ats_witness_law.proofs.laws.delays_are_exact.Goals as goal

pub returns : goal.returns
returns c = late.delays_are_exact
