use Rattle.ats_clock_examples.proofs.RateProofs.{rates_are_rounded}
use Rattle.ats_clock_examples.proofs.number_laws.rates_are_rounded.Goals as goal

pub returns : goal.returns
returns c = rates_are_rounded
