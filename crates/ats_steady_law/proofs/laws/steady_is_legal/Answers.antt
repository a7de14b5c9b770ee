use Rattle.ats_steady_law.proofs.SteadyRuns.{steady_is_legal}
use Rattle.ats_steady_law.proofs.laws.steady_is_legal.Goals as goal

pub returns : goal.returns
returns c = steady_is_legal
