use Rattle.ats_admission_law.proofs.NoneRises.{no_sum_rises}
use Rattle.ats_admission_law.proofs.laws.no_sum_rises.Goals as goal

pub returns : goal.returns
returns c = no_sum_rises
