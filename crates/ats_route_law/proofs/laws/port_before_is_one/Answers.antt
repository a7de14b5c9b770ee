use Rattle.ats_route_law.proofs.Before.{port_before_is_one}
use Rattle.ats_route_law.proofs.laws.port_before_is_one.Goals as goal

pub returns : goal.returns
returns c = port_before_is_one
