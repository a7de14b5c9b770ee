use Rattle.ats_admission_law.proofs.NoneRises.{less_has_no_reason}
use Rattle.ats_admission_law.proofs.laws.less_has_no_reason.Goals as goal

pub returns : goal.returns
returns c = less_has_no_reason
