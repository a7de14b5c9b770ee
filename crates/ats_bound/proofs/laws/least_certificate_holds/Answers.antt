use Rattle.ats_bound.proofs.LeastHolds.{least_certificate_holds}
use Rattle.ats_bound.proofs.laws.least_certificate_holds.Goals as goal

pub returns : goal.returns
returns c = least_certificate_holds
