use Rattle.ats_edge_examples.proofs.ShortRouteProofs.{routes_are_at_edges}
use Rattle.ats_edge_examples.proofs.laws.routes_are_at_edges.Goals as goal

pub returns : goal.returns
returns c = routes_are_at_edges
