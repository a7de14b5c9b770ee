use Rattle.ats_plain_network_law.specs.PortRule.{PortRuleIsKnown}

-- What a port does where each frame was told its eligibility time.
pub port_rule_is_known : PortRuleIsKnown
port_rule_is_known = λ ps sent. ((λ is. is), (λ is. is))
