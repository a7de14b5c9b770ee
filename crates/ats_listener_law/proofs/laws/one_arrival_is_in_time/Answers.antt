use Rattle.ats_listener_law.proofs.Alone.{one_arrival_is_in_time}
use Rattle.ats_listener_law.proofs.laws.one_arrival_is_in_time.Goals as goal

pub returns : goal.returns
returns c = one_arrival_is_in_time
