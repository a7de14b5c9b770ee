use Rattle.ats_clock_run_law.proofs.Ideal.{stations_read_true_time}
use Rattle.ats_clock_run_law.proofs.laws.stations_read_true_time.Goals as goal

pub returns : goal.returns
returns c = stations_read_true_time
