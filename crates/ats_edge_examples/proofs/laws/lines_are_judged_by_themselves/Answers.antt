use Rattle.ats_edge_examples.proofs.RequestProofs.{judged_by_themselves}
use Rattle.ats_edge_examples.proofs.laws.lines_are_judged_by_themselves.Goals as goal

pub returns : goal.returns
returns c = judged_by_themselves
