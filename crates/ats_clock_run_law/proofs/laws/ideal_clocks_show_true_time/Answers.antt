use Rattle.ats_clock_run_law.proofs.Ideal.{ideal_clocks_show_true_time}
use Rattle.ats_clock_run_law.proofs.laws.ideal_clocks_show_true_time.Goals as goal

pub returns : goal.returns
returns c = ideal_clocks_show_true_time
