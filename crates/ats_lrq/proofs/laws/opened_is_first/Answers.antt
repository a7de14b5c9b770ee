use Rattle.ats_lrq.proofs.StepLemmas.{opened_first}
use Rattle.ats_lrq.proofs.laws.opened_is_first.Goals as goal

pub returns : goal.returns
returns c = opened_first
