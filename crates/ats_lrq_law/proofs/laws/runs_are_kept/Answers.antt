use Rattle.ats_lrq_law.proofs.Narrowed as proved
use Rattle.ats_lrq_law.proofs.laws.runs_are_kept.Goals as goal

pub returns : goal.returns
returns c = proved.runs_are_kept
