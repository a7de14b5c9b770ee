use Rattle.ats_group_law.proofs.GroupsOutput.{groups_eligibility_least}
use Rattle.ats_group_law.proofs.laws.groups_eligibility_is_least.Goals as goal

pub returns : goal.returns
returns c = groups_eligibility_least
