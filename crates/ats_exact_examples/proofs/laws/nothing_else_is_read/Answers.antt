use Rattle.ats_exact_examples.proofs.OnlyProofs.{nothing_else_is_read}
use Rattle.ats_exact_examples.proofs.laws.nothing_else_is_read.Goals as goal

pub returns : goal.returns
returns c = nothing_else_is_read
