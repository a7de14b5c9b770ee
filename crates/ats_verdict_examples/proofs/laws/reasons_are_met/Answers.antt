use Rattle.ats_verdict_examples.proofs.Reasoned.{reasons_are_met}
use Rattle.ats_verdict_examples.proofs.laws.reasons_are_met.Goals as goal

pub returns : goal.returns
returns c = reasons_are_met
