use Rattle.ats_admission_law.proofs.NoneRises.{nothing_rises}
use Rattle.ats_admission_law.proofs.laws.nothing_rises.Goals as goal

pub returns : goal.returns
returns c = nothing_rises
