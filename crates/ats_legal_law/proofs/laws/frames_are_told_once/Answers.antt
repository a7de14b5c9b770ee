use Rattle.ats_legal_law.proofs.ToldOnce.{told_once}
use Rattle.ats_legal_law.proofs.laws.frames_are_told_once.Goals as goal

pub returns : goal.returns
returns c = told_once
