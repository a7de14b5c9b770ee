use Rattle.ats_bound.proofs.OneLeast.{least_certificate_is_one}
use Rattle.ats_bound.proofs.laws.least_certificate_is_one.Goals as goal

pub returns : goal.returns
returns c = least_certificate_is_one
