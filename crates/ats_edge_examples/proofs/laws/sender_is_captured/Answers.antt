use Rattle.ats_edge_examples.proofs.CapturedProofs.{sender_is_captured}
use Rattle.ats_edge_examples.proofs.laws.sender_is_captured.Goals as goal

pub returns : goal.returns
returns c = sender_is_captured
