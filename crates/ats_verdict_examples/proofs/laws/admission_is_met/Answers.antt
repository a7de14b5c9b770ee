use Rattle.ats_verdict_examples.proofs.Less.{admission_is_met}
use Rattle.ats_verdict_examples.proofs.laws.admission_is_met.Goals as goal

pub returns : goal.returns
returns c = admission_is_met
