use Rattle.ats_plain_law.proofs.BoundProofs.{bounds_are_plain}
use Rattle.ats_plain_law.proofs.laws.bounds_are_plain.Goals as goal

pub returns : goal.returns
returns c = bounds_are_plain
