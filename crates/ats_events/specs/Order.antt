use Rattle.std.specs.Prelude.{◌≡◌, ◌≢◌, ℕ, ◌<◌, ◌≤◌, ◌^◌, ◌⊎◌, bit_xor}
use Rattle.ats_events.specs.declared.moment.Moment.{Moment}

-- the numbers of this moment fit the types of its fields
pub record IsInRange (a : Moment) : Type 0 where
  pub at : a.at.0 < 2 ^ 64
  pub phase : a.phase < 2 ^ 32
  pub id : a.id < 2 ^ 32

-- no moment is before itself
abbrev pub IsIrreflexive : (Moment → Moment → Type 0) → Type 0
IsIrreflexive before = (a : Moment) → IsInRange a → ¬ before a a

-- what is before a moment is before all that this moment is before
abbrev pub IsTransitive : (Moment → Moment → Type 0) → Type 0
IsTransitive before = (a b c : Moment) → IsInRange a → IsInRange b → IsInRange c → before a b → before b c → before a c

-- of two different moments one is before the other
abbrev pub IsTotal : (Moment → Moment → Type 0) → Type 0
IsTotal before = (a b : Moment) → IsInRange a → IsInRange b → a ≢ b → before a b ⊎ before b a

-- a smaller time is before, and at equal times a smaller phase
pub record IsTimed (before : Moment → Moment → Type 0) : Type 0 where
  pub time : (a b : Moment) → IsInRange a → IsInRange b → a.at.0 < b.at.0 → before a b
  pub phase : (a b : Moment) → IsInRange a → IsInRange b → a.at.0 ≡ b.at.0 → a.phase < b.phase → before a b

-- a is before b by time, then by phase, and where both are equal by their ranks x and y
pub record IsBeforeByRank (a b : Moment) (x y : ℕ) : Type 0 where
  pub time : a.at.0 ≤ b.at.0
  pub phase : a.at.0 ≡ b.at.0 → a.phase ≤ b.phase
  pub rank : a.at.0 ≡ b.at.0 → a.phase ≡ b.phase → x < y

-- of one time and phase the lesser id is before
abbrev pub IsBeforeUp : Moment → Moment → Type 0
IsBeforeUp a b = IsBeforeByRank a b a.id b.id

-- of one time and phase the greater id is before
abbrev pub IsBeforeDown : Moment → Moment → Type 0
IsBeforeDown a b = IsBeforeByRank a b b.id a.id

-- of one time and phase that id is before which is less after an exclusive or with n
abbrev pub IsBeforeScrambled : ℕ → Moment → Moment → Type 0
IsBeforeScrambled n a b = IsBeforeByRank a b (bit_xor a.id n) (bit_xor b.id n)
