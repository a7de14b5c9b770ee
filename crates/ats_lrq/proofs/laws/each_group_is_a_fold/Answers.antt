use Rattle.ats_lrq.proofs.FoldLemmas.{each_group}
use Rattle.ats_lrq.proofs.laws.each_group_is_a_fold.Goals as goal

pub returns : goal.returns
returns c = each_group
