use Rattle.ats_plain_law.proofs.RefusalProofs.{refusals_are_plain}
use Rattle.ats_plain_law.proofs.laws.refusals_are_plain.Goals as goal

pub returns : goal.returns
returns c = refusals_are_plain
