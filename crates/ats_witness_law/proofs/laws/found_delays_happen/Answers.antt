use Rattle.ats_witness_law.proofs.FoundLaws as found
use Rattle.ats_witness_law.proofs.laws.found_delays_happen.Goals as goal

pub returns : goal.returns
returns c = found.found_delays_happen
