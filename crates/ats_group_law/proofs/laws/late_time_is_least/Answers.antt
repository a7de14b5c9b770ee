use Rattle.ats_group_law.proofs.OutputLaws.{late_time_least}
use Rattle.ats_group_law.proofs.laws.late_time_is_least.Goals as goal

pub returns : goal.returns
returns c = late_time_least
