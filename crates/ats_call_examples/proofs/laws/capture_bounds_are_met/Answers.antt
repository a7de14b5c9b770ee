use Rattle.ats_call_examples.proofs.Released.{capture_bounds_are_met}
use Rattle.ats_call_examples.proofs.laws.capture_bounds_are_met.Goals as goal

pub returns : goal.returns
returns c = capture_bounds_are_met
