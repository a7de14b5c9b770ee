use Rattle.ats_first_examples.proofs.RequestsFirst.{requests_are_first}
use Rattle.ats_first_examples.proofs.laws.requests_are_first.Goals as goal

pub returns : goal.returns
returns c = requests_are_first
