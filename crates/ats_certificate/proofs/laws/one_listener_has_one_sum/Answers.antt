use Rattle.ats_certificate.proofs.OneSum.{one_listener_has_one_sum}
use Rattle.ats_certificate.proofs.laws.one_listener_has_one_sum.Goals as goal

pub returns : goal.returns
returns c = one_listener_has_one_sum
