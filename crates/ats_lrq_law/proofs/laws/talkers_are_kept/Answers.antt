use Rattle.ats_lrq_law.proofs.Narrowed as proved
use Rattle.ats_lrq_law.proofs.laws.talkers_are_kept.Goals as goal

pub returns : goal.returns
returns c = proved.talkers_are_kept
