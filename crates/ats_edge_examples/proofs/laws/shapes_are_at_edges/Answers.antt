use Rattle.ats_edge_examples.proofs.ShapeProofs.{shapes_are_at_edges}
use Rattle.ats_edge_examples.proofs.laws.shapes_are_at_edges.Goals as goal

pub returns : goal.returns
returns c = shapes_are_at_edges
