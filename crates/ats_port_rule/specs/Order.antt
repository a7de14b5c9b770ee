use Rattle.std.specs.Prelude.{◌≡◌, ℕ, ◌+◌, ◌*◌, ◌<◌, ◌≤◌, List, All, AllPairs}
use Rattle.ats_port_rule.specs.Transmission.{Transmission}
use Rattle.ats_port_rule.specs.PortRule.{StartsAfterGap}

-- of two frames that are both eligible the port takes x: it has the higher class, in one class the earlier eligibility
-- time, and at one eligibility time the lesser key
pub record Precedes (key : ℕ → ℕ → ℕ) (x y : Transmission) : Type 0 where
  pub class : y.class ≤ x.class
  pub eligible : x.class ≡ y.class → x.eligible ≤ y.eligible
  pub tie : x.class ≡ y.class → x.eligible ≡ y.eligible → key x.sender x.frame < key y.sender y.frame

-- y may be sent at any time after x, which is one of these transmissions
pub record MayFollow (key : ℕ → ℕ → ℕ) (sent : List Transmission) (x y : Transmission) : Type 0 where
  -- where y was eligible when x started, x goes first
  pub behind : y.eligible ≤ x.start → Precedes key x y
  -- where x started after a gap, y was not eligible before
  pub waited : StartsAfterGap sent x → x.start ≤ y.eligible

-- y starts when x has ended, and may follow it
pub record Follows (key : ℕ → ℕ → ℕ) (sent : List Transmission) (x y : Transmission) : Type 0 where
  pub ended : x.end ≤ y.start
  pub may_follow : MayFollow key sent x y

-- x is a transmission that a port may make by itself
pub record IsTimely (ps_per_bit : ℕ) (sent : List Transmission) (x : Transmission) : Type 0 where
  pub waits : x.eligible ≤ x.start
  pub takes : x.end ≡ x.start + ps_per_bit * x.bits
  pub prompt : StartsAfterGap sent x → x.start ≤ x.eligible

-- the transmissions of a port in the order in which it makes them, each lawful by itself and after each one before it
pub record IsInOrder (key : ℕ → ℕ → ℕ) (ps_per_bit : ℕ) (sent : List Transmission) : Type 0 where
  pub each : All (λ (x : Transmission). IsTimely ps_per_bit sent x) sent
  pub pairs : AllPairs (λ (x y : Transmission). Follows key sent x y) sent
