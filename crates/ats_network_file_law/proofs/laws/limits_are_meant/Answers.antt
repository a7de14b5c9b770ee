use Rattle.ats_network_file_law.proofs.LimitsMeant.{limits_are_meant}
use Rattle.ats_network_file_law.proofs.laws.limits_are_meant.Goals as goal

pub returns : goal.returns
returns c = limits_are_meant
