use Rattle.ats_verdict_examples.proofs.Walked.{walks_are_met}
use Rattle.ats_verdict_examples.proofs.laws.walks_are_met.Goals as goal

pub returns : goal.returns
returns c = walks_are_met
