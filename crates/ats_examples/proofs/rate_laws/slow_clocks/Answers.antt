use Rattle.ats_examples.proofs.SlowClockProofs.{slow_clocks}
use Rattle.ats_examples.proofs.rate_laws.slow_clocks.Goals as goal

pub returns : goal.returns
returns c = slow_clocks
