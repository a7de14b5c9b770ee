use Rattle.ats_admission_law.proofs.Along.{reason_is_judged}
use Rattle.ats_admission_law.proofs.laws.reason_is_judged.Goals as goal

pub returns : goal.returns
returns c = reason_is_judged
