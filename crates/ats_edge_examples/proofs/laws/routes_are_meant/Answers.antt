use Rattle.ats_edge_examples.proofs.RoutesMeant.{routes_are_meant}
use Rattle.ats_edge_examples.proofs.laws.routes_are_meant.Goals as goal

pub returns : goal.returns
returns c = routes_are_meant
