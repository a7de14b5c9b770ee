use Rattle.ats_order_examples.proofs.OrderProofs.{orders_are_kept}
use Rattle.ats_order_examples.proofs.laws.orders_are_kept.Goals as goal

pub returns : goal.returns
returns c = orders_are_kept
