use Rattle.ats_sender_examples.proofs.CopiedProofs.{copies_count_once}
use Rattle.ats_sender_examples.proofs.laws.copies_count_once.Goals as goal

pub returns : goal.returns
returns c = copies_count_once
