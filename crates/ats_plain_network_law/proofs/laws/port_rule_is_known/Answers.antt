use Rattle.ats_plain_network_law.proofs.PortRuleProofs.{port_rule_is_known}
use Rattle.ats_plain_network_law.proofs.laws.port_rule_is_known.Goals as goal

pub returns : goal.returns
returns c = port_rule_is_known
