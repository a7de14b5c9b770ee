use Rattle.ats_plain_law.proofs.BrokenProofs.{broken_are_plain}
use Rattle.ats_plain_law.proofs.laws.broken_are_plain.Goals as goal

pub returns : goal.returns
returns c = broken_are_plain
