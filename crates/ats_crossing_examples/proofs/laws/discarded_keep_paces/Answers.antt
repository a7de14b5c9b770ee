use Rattle.ats_crossing_examples.proofs.DiscardProofs.{discarded_keep_paces}
use Rattle.ats_crossing_examples.proofs.laws.discarded_keep_paces.Goals as goal

pub returns : goal.returns
returns c = discarded_keep_paces
