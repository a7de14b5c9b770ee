use Rattle.ats_clock.proofs.Deviating.{keeps_greater}
use Rattle.ats_clock.proofs.laws.ideal_keeps_each.Goals as goal

pub returns-clause-greater : goal.returns-clause-greater
returns-clause-greater c = keeps_greater
