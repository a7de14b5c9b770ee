use Rattle.ats_witness_law.proofs.FoundLaws as found
use Rattle.ats_witness_law.proofs.laws.happens_by_clocks.Goals as goal

pub returns : goal.returns
returns c = found.happens_by_clocks
