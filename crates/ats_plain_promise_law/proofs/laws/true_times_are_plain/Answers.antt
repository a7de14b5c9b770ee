use Rattle.ats_plain_promise_law.proofs.TrueTimeProofs.{true_times_are_plain}
use Rattle.ats_plain_promise_law.proofs.laws.true_times_are_plain.Goals as goal

pub returns : goal.returns
returns c = true_times_are_plain
