use Rattle.ats_witness_law.proofs.FoundLaws as found
use Rattle.ats_witness_law.proofs.laws.no_sound_bound_is_less.Goals as goal

pub returns : goal.returns
returns c = found.no_sound_bound_is_less
