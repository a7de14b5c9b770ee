use Rattle.ats_edge_examples.proofs.OutsideProofs.{outside_is_at_edges}
use Rattle.ats_edge_examples.proofs.laws.outside_is_at_edges.Goals as goal

pub returns : goal.returns
returns c = outside_is_at_edges
