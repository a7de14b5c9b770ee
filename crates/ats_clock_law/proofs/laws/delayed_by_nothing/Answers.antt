use Rattle.ats_clock_law.proofs.Delayed.{delayed_by_nothing}
use Rattle.ats_clock_law.proofs.laws.delayed_by_nothing.Goals as goal

pub returns : goal.returns
returns c = delayed_by_nothing
