use Rattle.ats_order_examples.proofs.VerdictProofs.{verdicts_are_told}
use Rattle.ats_order_examples.proofs.laws.verdicts_are_told.Goals as goal

pub returns : goal.returns
returns c = verdicts_are_told
