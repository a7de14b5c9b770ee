use Rattle.ats_plain_run_law.proofs.JourneyProofs.{journeys_are_traced}
use Rattle.ats_plain_run_law.proofs.laws.journeys_are_traced.Goals as goal

pub returns : goal.returns
returns c = journeys_are_traced
