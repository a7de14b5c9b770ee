use Rattle.ats_verdict_examples.proofs.Conformances.{conformance_is_met}
use Rattle.ats_verdict_examples.proofs.laws.conformance_is_met.Goals as goal

pub returns : goal.returns
returns c = conformance_is_met
