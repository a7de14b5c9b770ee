use Rattle.ats_limit_examples.proofs.LegProofs.{legs_are_limited}
use Rattle.ats_limit_examples.proofs.laws.legs_are_limited.Goals as goal

pub returns : goal.returns
returns c = legs_are_limited
