use Rattle.ats_admission_law.proofs.Near.{near_finds_late}
use Rattle.ats_admission_law.proofs.laws.near_finds_late.Goals as goal

pub returns : goal.returns
returns c = near_finds_late
