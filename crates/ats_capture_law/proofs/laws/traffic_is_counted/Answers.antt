use Rattle.ats_capture_law.proofs.Counting.{traffic_is_counted}
use Rattle.ats_capture_law.proofs.laws.traffic_is_counted.Goals as goal

pub returns : goal.returns
returns c = traffic_is_counted
