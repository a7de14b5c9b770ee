use Rattle.ats_group_law.proofs.GroupsOutput.{groups_output_conforms}
use Rattle.ats_group_law.proofs.laws.groups_output_conforms.Goals as goal

pub returns : goal.returns
returns c = groups_output_conforms
