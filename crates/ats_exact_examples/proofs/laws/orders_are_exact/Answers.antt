use Rattle.ats_exact_examples.proofs.OrderProofs.{orders_are_exact}
use Rattle.ats_exact_examples.proofs.laws.orders_are_exact.Goals as goal

pub returns : goal.returns
returns c = orders_are_exact
