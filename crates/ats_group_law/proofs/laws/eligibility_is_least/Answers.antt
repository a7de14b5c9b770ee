use Rattle.ats_group_law.proofs.OutputLaws.{eligibility_least}
use Rattle.ats_group_law.proofs.laws.eligibility_is_least.Goals as goal

pub returns : goal.returns
returns c = eligibility_least
