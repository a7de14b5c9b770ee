use Rattle.ats_witness_law.proofs.FoundLaws as found
use Rattle.ats_witness_law.proofs.laws.found_is_within.Goals as goal

pub returns : goal.returns
returns c = found.found_is_within
