use Rattle.ats_route_law.proofs.Steps.{rates_go_hop_by_hop}
use Rattle.ats_route_law.proofs.laws.rates_go_hop_by_hop.Goals as goal

pub returns : goal.returns
returns c = rates_go_hop_by_hop
