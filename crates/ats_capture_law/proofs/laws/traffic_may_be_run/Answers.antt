use Rattle.ats_capture_law.proofs.Runnable.{traffic_may_be_run}
use Rattle.ats_capture_law.proofs.laws.traffic_may_be_run.Goals as goal

pub returns : goal.returns
returns c = traffic_may_be_run
