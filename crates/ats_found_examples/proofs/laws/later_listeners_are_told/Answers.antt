use Rattle.ats_found_examples.proofs.LaterProofs.{later_listeners_are_told}
use Rattle.ats_found_examples.proofs.laws.later_listeners_are_told.Goals as goal

pub returns : goal.returns
returns c = later_listeners_are_told
