use Rattle.ats_witness_law.proofs.FoundLaws as found
use Rattle.ats_witness_law.proofs.laws.burst_keeps_buckets.Goals as goal

pub returns : goal.returns
returns c = found.burst_keeps_buckets
