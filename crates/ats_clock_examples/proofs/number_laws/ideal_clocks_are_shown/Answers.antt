use Rattle.ats_clock_examples.proofs.IdealProofs.{ideal_clocks_are_shown}
use Rattle.ats_clock_examples.proofs.number_laws.ideal_clocks_are_shown.Goals as goal

pub returns : goal.returns
returns c = ideal_clocks_are_shown
