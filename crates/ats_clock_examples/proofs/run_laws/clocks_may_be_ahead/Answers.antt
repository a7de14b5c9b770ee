use Rattle.ats_clock_examples.proofs.AheadProofs.{clocks_may_be_ahead}
use Rattle.ats_clock_examples.proofs.run_laws.clocks_may_be_ahead.Goals as goal

pub returns : goal.returns
returns c = clocks_may_be_ahead
