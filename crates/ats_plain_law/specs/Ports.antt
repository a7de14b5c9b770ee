use Rattle.std.specs.Prelude.{◌≡◌, ◌≢◌, ◌↔◌, ◌⊎◌, ℕ, ◌+◌, ◌*◌, ◌<◌, ◌≤◌, List, All, AllPairs}
use Rattle.ats_port_rule.specs.PortRule.{AreApart, IsAheadBy, KeepsPortRuleBy, KeepsTie, StartsAfterGap, TieAgrees}
use Rattle.ats_port_rule.specs.Transmission.{Transmission}

-- what a port does, each part in its times: whichever starts first of two transmissions has ended when the other
-- starts, not a picosecond earlier
pub record PortsArePlain : Type 0 where
  pub apart : (x y : Transmission) → AreApart x y ↔ ((x.end ≤ y.start) ⊎ (y.end ≤ x.start))
  pub ahead : (told : Transmission → ℕ) (x y : Transmission) → IsAheadBy told x y
      ↔ ((y.class ≤ x.class) × (x.class ≡ y.class → told x ≤ told y))
  pub gap : (sent : List Transmission) (x : Transmission) → StartsAfterGap sent x
      ↔ All (λ (z : Transmission). z.end ≢ x.start) sent
  pub rule : (told : Transmission → ℕ) (ps : ℕ) (sent : List Transmission) → KeepsPortRuleBy told ps sent
      ↔ (All (λ (x : Transmission). x.eligible ≤ x.start) sent
      × All (λ (x : Transmission). x.end ≡ x.start + ps * x.bits) sent
      × AllPairs (λ (x y : Transmission). (x.end ≤ y.start) ⊎ (y.end ≤ x.start)) sent
      × All (λ (x : Transmission). All (λ (y : Transmission). x.start < y.start → y.eligible ≤ x.start
      → IsAheadBy told x y) sent) sent
      × All (λ (x : Transmission). All (λ (y : Transmission). StartsAfterGap sent x → x.start ≤ y.start
      → x.start ≤ y.eligible) sent) sent)
  pub tie : (key : ℕ → ℕ → ℕ) (x y : Transmission) → TieAgrees key x y
      ↔ (x.class ≡ y.class → x.eligible ≡ y.eligible → x.start < y.start
      → key x.sender x.frame < key y.sender y.frame)
  pub ties : (key : ℕ → ℕ → ℕ) (sent : List Transmission) → KeepsTie key sent
      ↔ All (λ (x : Transmission). All (λ (y : Transmission). TieAgrees key x y) sent) sent
