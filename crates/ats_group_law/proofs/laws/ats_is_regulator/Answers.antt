use Rattle.ats_group_law.proofs.Regulator.{ats_is_regulator}
use Rattle.ats_group_law.proofs.laws.ats_is_regulator.Goals as goal

pub returns : goal.returns
returns c = ats_is_regulator
