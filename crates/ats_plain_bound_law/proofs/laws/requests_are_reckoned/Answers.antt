use Rattle.ats_plain_bound_law.proofs.RequestProofs.{requests_are_reckoned}
use Rattle.ats_plain_bound_law.proofs.laws.requests_are_reckoned.Goals as goal

pub returns : goal.returns
returns c = requests_are_reckoned
