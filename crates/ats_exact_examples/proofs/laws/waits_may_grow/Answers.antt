use Rattle.ats_exact_examples.proofs.WaitProofs.{waits_may_grow}
use Rattle.ats_exact_examples.proofs.laws.waits_may_grow.Goals as goal

pub returns : goal.returns
returns c = waits_may_grow
