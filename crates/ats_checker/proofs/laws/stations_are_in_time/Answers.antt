use Rattle.ats_checker.proofs.InTime.{stations_are_in_time}
use Rattle.ats_checker.proofs.laws.stations_are_in_time.Goals as goal

pub returns : goal.returns
returns g c = stations_are_in_time g.R.TalkerRule.kept
