use Rattle.ats_plain_run_law.proofs.ClockProofs.{told_times_are_traced}
use Rattle.ats_plain_run_law.proofs.laws.told_times_are_traced.Goals as goal

pub returns : goal.returns
returns c = told_times_are_traced
