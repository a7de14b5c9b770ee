use Rattle.ats_listener_law.proofs.Ends.{station_is_at_the_end}
use Rattle.ats_listener_law.proofs.laws.station_is_at_the_end.Goals as goal

pub returns : goal.returns
returns c = station_is_at_the_end
