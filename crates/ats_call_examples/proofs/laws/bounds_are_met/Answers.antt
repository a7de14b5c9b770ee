use Rattle.ats_call_examples.proofs.Replayed.{bounds_are_met}
use Rattle.ats_call_examples.proofs.laws.bounds_are_met.Goals as goal

pub returns : goal.returns
returns c = bounds_are_met
