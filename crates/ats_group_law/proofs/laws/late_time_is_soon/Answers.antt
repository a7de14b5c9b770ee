use Rattle.ats_group_law.proofs.Soon.{late_time_soon}
use Rattle.ats_group_law.proofs.laws.late_time_is_soon.Goals as goal

pub returns : goal.returns
returns c = late_time_soon
