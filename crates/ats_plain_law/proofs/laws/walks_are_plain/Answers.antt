use Rattle.ats_plain_law.proofs.WalkProofs.{walks_are_plain}
use Rattle.ats_plain_law.proofs.laws.walks_are_plain.Goals as goal

pub returns : goal.returns
returns c = walks_are_plain
