use Rattle.ats_verdict_examples.proofs.Requests.{requests_are_met}
use Rattle.ats_verdict_examples.proofs.laws.requests_are_met.Goals as goal

pub returns : goal.returns
returns c = requests_are_met
