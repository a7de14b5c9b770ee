use Rattle.ats_order_examples.proofs.DiscardProofs.{discarded_are_not_sent}
use Rattle.ats_order_examples.proofs.laws.discarded_are_not_sent.Goals as goal

pub returns : goal.returns
returns c = discarded_are_not_sent
