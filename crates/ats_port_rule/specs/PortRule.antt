use Rattle.std.specs.Prelude.{◌≡◌, ◌≢◌, ℕ, ◌+◌, ◌*◌, ◌<◌, ◌≤◌, ◌⊎◌, List, All, AllPairs}
use Rattle.ats_port_rule.specs.Transmission.{Transmission}

-- one of two transmissions has ended when the other starts
abbrev pub AreApart : Transmission → Transmission → Type 0
AreApart x y = (x.end ≤ y.start) ⊎ (y.end ≤ x.start)

-- x is of the higher class, or of the same class and, by the times that frames were told, eligible no later than y
pub record IsAheadBy (told : Transmission → ℕ) (x y : Transmission) : Type 0 where
  pub class : y.class ≤ x.class
  pub no_later : x.class ≡ y.class → told x ≤ told y

-- the same, where each frame was told its eligibility time
abbrev pub IsAhead : Transmission → Transmission → Type 0
IsAhead x y = IsAheadBy (λ (z : Transmission). z.eligible) x y

-- no transmission ended at the moment at which x started
abbrev pub StartsAfterGap : List Transmission → Transmission → Type 0
StartsAfterGap sent x = All (λ (z : Transmission). z.end ≢ x.start) sent

-- what a port does that sends one frame after another, each to its end, as soon as one is eligible, and then the
-- highest class first and in each class the frame that was told the earliest time by the clock of the node
pub record KeepsPortRuleBy (told : Transmission → ℕ) (ps_per_bit : ℕ) (sent : List Transmission) : Type 0 where
  -- no frame starts before it is eligible
  pub waits : All (λ (x : Transmission). x.eligible ≤ x.start) sent
  -- a transmission takes the time of its bits
  pub takes : All (λ (x : Transmission). x.end ≡ x.start + ps_per_bit * x.bits) sent
  -- two transmissions do not overlap
  pub apart : AllPairs AreApart sent
  -- where y was eligible when x started, and started later, x is ahead of y
  pub chosen : All (λ (x : Transmission).
      All (λ (y : Transmission). x.start < y.start → y.eligible ≤ x.start → IsAheadBy told x y) sent) sent
  -- where x started after a gap, no frame that had still to be sent was eligible before
  pub prompt : All (λ (x : Transmission).
      All (λ (y : Transmission). StartsAfterGap sent x → x.start ≤ y.start → x.start ≤ y.eligible) sent) sent

-- the same, where each frame was told its eligibility time: in each class the frame that became eligible first goes
-- first
abbrev pub KeepsPortRule : ℕ → List Transmission → Type 0
KeepsPortRule ps_per_bit sent = KeepsPortRuleBy (λ (x : Transmission). x.eligible) ps_per_bit sent

-- of two frames of one class that became eligible together, the one that starts first has the lesser key
abbrev pub TieAgrees : (ℕ → ℕ → ℕ) → Transmission → Transmission → Type 0
TieAgrees key x y =
    x.class ≡ y.class → x.eligible ≡ y.eligible → x.start < y.start → key x.sender x.frame < key y.sender y.frame

-- a port breaks each tie by this key of a sender and a frame
abbrev pub KeepsTie : (ℕ → ℕ → ℕ) → List Transmission → Type 0
KeepsTie key sent = All (λ (x : Transmission). All (λ (y : Transmission). TieAgrees key x y) sent) sent
