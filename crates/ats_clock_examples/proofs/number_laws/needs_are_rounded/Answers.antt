use Rattle.ats_clock_examples.proofs.NeedProofs.{needs_are_rounded}
use Rattle.ats_clock_examples.proofs.number_laws.needs_are_rounded.Goals as goal

pub returns : goal.returns
returns c = needs_are_rounded
