use Rattle.ats_soundness_law.proofs.TrueTime.{containment}
use Rattle.ats_soundness_law.proofs.laws.containment.Goals as goal

pub returns : goal.returns
returns c = containment
