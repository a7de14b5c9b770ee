use Rattle.ats_admission_law.proofs.Lowest.{path_finds_first}
use Rattle.ats_admission_law.proofs.laws.path_finds_first.Goals as goal

pub returns : goal.returns
returns c = path_finds_first
