use Rattle.ats_checker.proofs.InTime.{in_time_in_true_time}
use Rattle.ats_checker.proofs.laws.in_time_in_true_time.Goals as goal

pub returns : goal.returns
returns c = in_time_in_true_time
