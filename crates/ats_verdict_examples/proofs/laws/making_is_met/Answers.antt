use Rattle.ats_verdict_examples.proofs.Making.{making_is_met}
use Rattle.ats_verdict_examples.proofs.laws.making_is_met.Goals as goal

pub returns : goal.returns
returns c = making_is_met
