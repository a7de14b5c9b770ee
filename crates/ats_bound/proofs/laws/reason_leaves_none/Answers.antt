use Rattle.ats_bound.proofs.NoneHolds.{reason_leaves_none}
use Rattle.ats_bound.proofs.laws.reason_leaves_none.Goals as goal

pub returns : goal.returns
returns c = reason_leaves_none
