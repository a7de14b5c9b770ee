use Rattle.ats_admission_law.proofs.NoneRises.{less_holds}
use Rattle.ats_admission_law.proofs.laws.less_holds.Goals as goal

pub returns : goal.returns
returns c = less_holds
