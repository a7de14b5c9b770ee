use Rattle.ats_witness_examples.proofs.Summed.{sums_are_own}
use Rattle.ats_witness_examples.proofs.laws.sums_are_own.Goals as goal

pub returns : goal.returns
returns c = sums_are_own
