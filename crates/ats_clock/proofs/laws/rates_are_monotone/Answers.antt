use Rattle.ats_clock.proofs.Monotone.{are_monotone}
use Rattle.ats_clock.proofs.laws.rates_are_monotone.Goals as goal

pub returns : goal.returns
returns c = are_monotone
