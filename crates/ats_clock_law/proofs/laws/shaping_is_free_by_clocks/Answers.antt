use Rattle.ats_clock_law.proofs.Delayed.{free_by_clocks}
use Rattle.ats_clock_law.proofs.laws.shaping_is_free_by_clocks.Goals as goal

pub returns : goal.returns
returns c = free_by_clocks
