use Rattle.ats_edge_examples.proofs.RefusedTold.{refusals_are_told}
use Rattle.ats_edge_examples.proofs.laws.refusals_are_told.Goals as goal

pub returns : goal.returns
returns c = refusals_are_told
