use Rattle.ats_soundness_law.proofs.TrueTime.{path_law}
use Rattle.ats_soundness_law.proofs.laws.path_law.Goals as goal

pub returns : goal.returns
returns c = path_law
