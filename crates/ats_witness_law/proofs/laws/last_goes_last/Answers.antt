use Rattle.ats_witness_law.proofs.FoundLaws as found
use Rattle.ats_witness_law.proofs.laws.last_goes_last.Goals as goal

pub returns : goal.returns
returns c = found.last_goes_last
