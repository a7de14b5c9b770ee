use Rattle.ats_verdict_examples.proofs.Refused.{refusals_are_met}
use Rattle.ats_verdict_examples.proofs.laws.refusals_are_met.Goals as goal

pub returns : goal.returns
returns c = refusals_are_met
