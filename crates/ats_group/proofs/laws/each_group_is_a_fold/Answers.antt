use Rattle.ats_group.proofs.FoldLemmas.{each_group}
use Rattle.ats_group.proofs.laws.each_group_is_a_fold.Goals as goal

pub returns : goal.returns
returns c = each_group
