use Rattle.ats_tally.proofs.OneSums.{one_listener_is_late}
use Rattle.ats_tally.proofs.laws.one_listener_is_late.Goals as goal

pub returns : goal.returns
returns c = one_listener_is_late
