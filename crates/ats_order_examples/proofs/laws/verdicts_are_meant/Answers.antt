use Rattle.ats_order_examples.proofs.VerdictProofs.{verdicts_are_meant}
use Rattle.ats_order_examples.proofs.laws.verdicts_are_meant.Goals as goal

pub returns : goal.returns
returns c = verdicts_are_meant
