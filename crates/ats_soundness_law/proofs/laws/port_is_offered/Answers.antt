use Rattle.ats_soundness_law.proofs.OfferedIn.{port_is_offered}
use Rattle.ats_soundness_law.proofs.laws.port_is_offered.Goals as goal

pub returns : goal.returns
returns c = port_is_offered
