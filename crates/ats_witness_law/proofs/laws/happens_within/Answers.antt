use Rattle.ats_witness_law.proofs.FoundLaws as found
use Rattle.ats_witness_law.proofs.laws.happens_within.Goals as goal

pub returns : goal.returns
returns c = found.happens_within
