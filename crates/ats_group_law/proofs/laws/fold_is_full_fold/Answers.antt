use Rattle.ats_group_law.proofs.FullFold.{full_fold}
use Rattle.ats_group_law.proofs.laws.fold_is_full_fold.Goals as goal

pub returns : goal.returns
returns c = full_fold
