use Rattle.ats_clock_examples.proofs.StayProofs.{stays_are_by_clock}
use Rattle.ats_clock_examples.proofs.run_laws.stays_are_by_clock.Goals as goal

pub returns : goal.returns
returns c = stays_are_by_clock
