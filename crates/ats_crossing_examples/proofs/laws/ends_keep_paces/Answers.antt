use Rattle.ats_crossing_examples.proofs.EndProofs.{ends_keep_paces}
use Rattle.ats_crossing_examples.proofs.laws.ends_keep_paces.Goals as goal

pub returns : goal.returns
returns c = ends_keep_paces
