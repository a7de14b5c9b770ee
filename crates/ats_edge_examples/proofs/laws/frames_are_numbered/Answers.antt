use Rattle.ats_edge_examples.proofs.MeteredProofs.{frames_are_numbered}
use Rattle.ats_edge_examples.proofs.laws.frames_are_numbered.Goals as goal

pub returns : goal.returns
returns c = frames_are_numbered
