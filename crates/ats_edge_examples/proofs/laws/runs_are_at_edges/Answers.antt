use Rattle.ats_edge_examples.proofs.RunProofs.{runs_are_at_edges}
use Rattle.ats_edge_examples.proofs.laws.runs_are_at_edges.Goals as goal

pub returns : goal.returns
returns c = runs_are_at_edges
