use Rattle.ats_group_law.proofs.OutputLaws.{group_time_last}
use Rattle.ats_group_law.proofs.laws.group_time_is_last.Goals as goal

pub returns : goal.returns
returns c = group_time_last
