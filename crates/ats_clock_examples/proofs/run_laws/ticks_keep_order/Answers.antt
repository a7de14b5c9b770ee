use Rattle.ats_clock_examples.proofs.WithinTickProofs as within
use Rattle.ats_clock_examples.proofs.run_laws.ticks_keep_order.Goals as goal

pub returns : goal.returns
returns c = within.ticks_keep_order
