use Rattle.ats_promise_law.proofs.Stations.{joined_begin_at_stations}
use Rattle.ats_promise_law.proofs.laws.joined_begin_at_stations.Goals as goal

pub returns : goal.returns
returns c = joined_begin_at_stations
