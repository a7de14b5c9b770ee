use Rattle.ats_plain_law.proofs.ConstantProofs.{constants_are_plain}
use Rattle.ats_plain_law.proofs.laws.constants_are_plain.Goals as goal

pub returns : goal.returns
returns c = constants_are_plain
