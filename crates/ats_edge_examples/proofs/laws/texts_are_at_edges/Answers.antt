use Rattle.ats_edge_examples.proofs.TextProofs.{texts_are_at_edges}
use Rattle.ats_edge_examples.proofs.laws.texts_are_at_edges.Goals as goal

pub returns : goal.returns
returns c = texts_are_at_edges
