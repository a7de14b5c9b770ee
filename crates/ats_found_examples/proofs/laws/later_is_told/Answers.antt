use Rattle.ats_found_examples.proofs.LaterProofs.{later_is_told}
use Rattle.ats_found_examples.proofs.laws.later_is_told.Goals as goal

pub returns : goal.returns
returns c = later_is_told
