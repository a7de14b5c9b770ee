use Rattle.ats_sender_examples.proofs.MeasuredProofs.{senders_are_measured}
use Rattle.ats_sender_examples.proofs.laws.senders_are_measured.Goals as goal

pub returns : goal.returns
returns c = senders_are_measured
