use Rattle.ats_lrq_law.proofs.Regulator as proved
use Rattle.ats_lrq_law.proofs.laws.lrq_is_regulator.Goals as goal

pub returns : goal.returns
returns c = proved.lrq_is_regulator
