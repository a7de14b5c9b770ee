use Rattle.ats_steady_law.proofs.RestProofs.{rests_are_exact}
use Rattle.ats_steady_law.proofs.laws.rests_are_exact.Goals as goal

pub returns : goal.returns
returns c = rests_are_exact
