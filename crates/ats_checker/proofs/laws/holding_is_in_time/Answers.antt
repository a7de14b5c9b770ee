use Rattle.ats_checker.proofs.InTime.{holding_is_in_time}
use Rattle.ats_checker.proofs.laws.holding_is_in_time.Goals as goal

pub returns : goal.returns
returns c = holding_is_in_time
