use Rattle.ats_clock.proofs.Falling.{never_falls, never_falls_along}
use Rattle.ats_clock.proofs.laws.rates_never_fall.Goals as goal

pub returns-clause-bridge : goal.returns-clause-bridge
returns-clause-bridge c = never_falls

pub returns-clause-path : goal.returns-clause-path
returns-clause-path c = never_falls_along
