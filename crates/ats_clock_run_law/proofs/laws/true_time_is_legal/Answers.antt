use Rattle.ats_clock_run_law.proofs.TrueTime.{true_time_is_legal}
use Rattle.ats_clock_run_law.proofs.laws.true_time_is_legal.Goals as goal

pub returns : goal.returns
returns c = true_time_is_legal
