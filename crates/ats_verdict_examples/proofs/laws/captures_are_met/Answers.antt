use Rattle.ats_verdict_examples.proofs.Captures.{captures_are_met}
use Rattle.ats_verdict_examples.proofs.laws.captures_are_met.Goals as goal

pub returns : goal.returns
returns c = captures_are_met
