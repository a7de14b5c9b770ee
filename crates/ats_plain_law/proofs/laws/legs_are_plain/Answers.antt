use Rattle.ats_plain_law.proofs.LegProofs.{legs_are_plain}
use Rattle.ats_plain_law.proofs.laws.legs_are_plain.Goals as goal

pub returns : goal.returns
returns c = legs_are_plain
