use Rattle.ats_clock_examples.proofs.NarrowProofs.{narrowed_keeps_clocks}
use Rattle.ats_clock_examples.proofs.number_laws.narrowed_keeps_clocks.Goals as goal

pub returns : goal.returns
returns c = narrowed_keeps_clocks
