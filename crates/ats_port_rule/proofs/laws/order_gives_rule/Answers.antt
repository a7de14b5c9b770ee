use Rattle.ats_port_rule.proofs.InOrder.{rule_from_order}
use Rattle.ats_port_rule.proofs.laws.order_gives_rule.Goals as goal

pub returns : goal.returns
returns c = rule_from_order
