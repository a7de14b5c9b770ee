use Rattle.ats_tally.proofs.OneSums.{one_sum_for_each}
use Rattle.ats_tally.proofs.laws.one_sum_for_each.Goals as goal

pub returns : goal.returns
returns c = one_sum_for_each
