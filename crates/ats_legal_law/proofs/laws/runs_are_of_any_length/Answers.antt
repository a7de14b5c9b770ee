use Rattle.ats_legal_law.proofs.LineRuns.{any_length}
use Rattle.ats_legal_law.proofs.laws.runs_are_of_any_length.Goals as goal

pub returns : goal.returns
returns c = any_length
