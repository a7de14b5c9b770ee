use Rattle.ats_network.proofs.ValidRoutes.{each_route_is_a_path}
use Rattle.ats_network.proofs.laws.each_route_is_a_path.Goals as goal

pub returns : goal.returns
returns c = each_route_is_a_path
