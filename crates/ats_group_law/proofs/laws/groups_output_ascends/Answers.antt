use Rattle.ats_group_law.proofs.GroupsOutput.{groups_output_ascends}
use Rattle.ats_group_law.proofs.laws.groups_output_ascends.Goals as goal

pub returns : goal.returns
returns c = groups_output_ascends
