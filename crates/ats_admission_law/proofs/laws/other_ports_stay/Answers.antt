use Rattle.ats_admission_law.proofs.Others.{other_ports_stay}
use Rattle.ats_admission_law.proofs.laws.other_ports_stay.Goals as goal

pub returns : goal.returns
returns c = other_ports_stay
