use Rattle.ats_network.proofs.EndsApart.{stations_end_apart}
use Rattle.ats_network.proofs.laws.stations_end_apart.Goals as goal

pub returns : goal.returns
returns c = stations_end_apart
