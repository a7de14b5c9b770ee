use Rattle.ats_port_rule.proofs.InOrder.{tie_from_order}
use Rattle.ats_port_rule.proofs.laws.order_gives_tie.Goals as goal

pub returns : goal.returns
returns c = tie_from_order
