use Rattle.ats_plain_law.proofs.VerdictProofs.{verdicts_are_plain}
use Rattle.ats_plain_law.proofs.laws.verdicts_are_plain.Goals as goal

pub returns : goal.returns
returns c = verdicts_are_plain
