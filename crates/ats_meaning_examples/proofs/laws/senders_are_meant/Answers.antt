use Rattle.ats_meaning_examples.proofs.SenderParts.{senders_are_meant}
use Rattle.ats_meaning_examples.proofs.laws.senders_are_meant.Goals as goal

pub returns : goal.returns
returns c = senders_are_meant
