use Rattle.ats_lrq_law.proofs.GroupsOutput as proved
use Rattle.ats_lrq_law.proofs.laws.groups_output_ascends.Goals as goal

pub returns : goal.returns
returns c = proved.groups_output_ascends
