use Rattle.ats_checker.proofs.Refused.{least_is_accepted}
use Rattle.ats_checker.proofs.laws.least_is_accepted.Goals as goal

pub returns : goal.returns
returns c = least_is_accepted
