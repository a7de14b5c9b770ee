use Rattle.ats_legal_law.proofs.CrowdRuns.{crowds_are_legal}
use Rattle.ats_legal_law.proofs.laws.crowds_are_legal.Goals as goal

pub returns : goal.returns
returns c = crowds_are_legal
