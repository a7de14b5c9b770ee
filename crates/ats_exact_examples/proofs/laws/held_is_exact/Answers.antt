use Rattle.ats_exact_examples.proofs.HeldProofs.{held_is_exact}
use Rattle.ats_exact_examples.proofs.laws.held_is_exact.Goals as goal

pub returns : goal.returns
returns c = held_is_exact
