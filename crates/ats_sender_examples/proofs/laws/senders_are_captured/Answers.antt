use Rattle.ats_sender_examples.proofs.CapturedProofs.{senders_are_captured}
use Rattle.ats_sender_examples.proofs.laws.senders_are_captured.Goals as goal

pub returns : goal.returns
returns c = senders_are_captured
