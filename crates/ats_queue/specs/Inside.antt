use Rattle.std.specs.Prelude.{◌≢◌, ℕ, ◌+◌, ◌*◌, ◌<◌, ◌^◌, List, All, AllPairs}
use Rattle.ats_queue.specs.declared.queued.Queued.{Queued}

-- no frame is held twice
abbrev pub AreDistinct : List Queued → Type 0
AreDistinct held = AllPairs (λ (x y : Queued). x.frame ≢ y.frame) held

-- the numbers of a frame and its sender fit their types
pub record IsInRange (x : Queued) : Type 0 where
  pub frame : x.frame < 2 ^ 32
  pub sender : x.sender < 2 ^ 32

-- no frame is held twice, and numbers fit their types
pub record IsKept (held : List Queued) : Type 0 where
  pub distinct : AreDistinct held
  pub in_range : All IsInRange held

-- eligibility time and key of a frame as the digits of one number
abbrev pub number_of : ℕ → ℕ → ℕ
number_of eligible key = eligible * 2 ^ 64 + key
