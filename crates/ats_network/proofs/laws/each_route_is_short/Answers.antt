use Rattle.ats_network.proofs.SenderLemmas.{each_route_is_short}
use Rattle.ats_network.proofs.laws.each_route_is_short.Goals as goal

pub returns : goal.returns
returns c = each_route_is_short
