use Rattle.std.specs.Prelude.{ℕ, List, IsPermutation}
use Rattle.ats_port_rule.specs.Transmission.{Transmission}
use Rattle.ats_port_rule.specs.PortRule.{KeepsPortRule, KeepsTie}
use Rattle.ats_port_rule.specs.Order.{IsInOrder}

-- the port rule and the order of the tie follow from the order in which a port makes its transmissions
abbrev pub OrderGivesRule : Type 0
OrderGivesRule =
    (key : ℕ → ℕ → ℕ) (ps_per_bit : ℕ) (sent : List Transmission)
    → IsInOrder key ps_per_bit sent → KeepsPortRule ps_per_bit sent

abbrev pub OrderGivesTie : Type 0
OrderGivesTie =
    (key : ℕ → ℕ → ℕ) (ps_per_bit : ℕ) (sent : List Transmission) → IsInOrder key ps_per_bit sent → KeepsTie key sent

-- neither depends on the order in which the transmissions are listed
abbrev pub RuleKeptByPermutation : Type 0
RuleKeptByPermutation =
    (ps_per_bit : ℕ) (sent other : List Transmission)
    → IsPermutation sent other → KeepsPortRule ps_per_bit sent → KeepsPortRule ps_per_bit other

abbrev pub TieKeptByPermutation : Type 0
TieKeptByPermutation =
    (key : ℕ → ℕ → ℕ) (sent other : List Transmission)
    → IsPermutation sent other → KeepsTie key sent → KeepsTie key other
