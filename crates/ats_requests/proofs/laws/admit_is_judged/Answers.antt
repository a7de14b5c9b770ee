use Rattle.ats_requests.proofs.Keeps.{admit_is_judged}
use Rattle.ats_requests.proofs.laws.admit_is_judged.Goals as goal

pub returns : goal.returns
returns c = admit_is_judged
