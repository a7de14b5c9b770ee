use Rattle.ats_order_examples.proofs.JourneyProofs.{journeys_are_meant}
use Rattle.ats_order_examples.proofs.laws.journeys_are_meant.Goals as goal

pub returns : goal.returns
returns c = journeys_are_meant
