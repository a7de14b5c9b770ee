use Rattle.ats_clock_examples.proofs.EdgeProofs.{clocks_are_at_their_edges}
use Rattle.ats_clock_examples.proofs.number_laws.clocks_are_at_their_edges.Goals as goal

pub returns : goal.returns
returns c = clocks_are_at_their_edges
