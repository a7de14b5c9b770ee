use Rattle.ats_admission_law.proofs.Others.{other_sums_stay}
use Rattle.ats_admission_law.proofs.laws.other_sums_stay.Goals as goal

pub returns : goal.returns
returns c = other_sums_stay
