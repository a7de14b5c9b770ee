use Rattle.ats_soundness_law.proofs.TrueTime.{stations_promise_all}
use Rattle.ats_soundness_law.proofs.laws.stations_promise_all.Goals as goal

pub returns : goal.returns
returns g c = stations_promise_all g.R.TalkerRule.kept
