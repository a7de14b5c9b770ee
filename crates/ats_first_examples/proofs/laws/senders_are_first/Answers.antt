use Rattle.ats_first_examples.proofs.SendersFirst.{senders_are_first}
use Rattle.ats_first_examples.proofs.laws.senders_are_first.Goals as goal

pub returns : goal.returns
returns c = senders_are_first
