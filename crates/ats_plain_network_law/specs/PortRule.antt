use Rattle.std.specs.Prelude.{◌↔◌, ℕ, List}
use Rattle.ats_port_rule.specs.PortRule.{KeepsPortRule, KeepsPortRuleBy}
use Rattle.ats_port_rule.specs.Transmission.{Transmission}

-- a port keeps its rule where it does with the eligibility time of each frame in the place of the one that it was told
abbrev pub PortRuleIsKnown : Type 0
PortRuleIsKnown = (ps : ℕ) (sent : List Transmission) → KeepsPortRule ps sent
    ↔ KeepsPortRuleBy (λ (x : Transmission). x.eligible) ps sent
