use Rattle.ats_legal_law.proofs.Repeated.{legal_when_repeated, kept_when_repeated, long_when_repeated}
use Rattle.ats_legal_law.proofs.laws.runs_repeat.Goals as goal

pub returns : goal.returns
returns c = record { legal = legal_when_repeated; kept = kept_when_repeated; long = long_when_repeated }
