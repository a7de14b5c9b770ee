use Rattle.std.specs.Prelude.{◌≢◌, ℕ, ◌+◌, ◌*◌, ◌^◌, List, Option, All, AllPairs}
use Rattle.std.specs.Option.{ForSome}
use Rattle.ats_events.specs.declared.moment.Moment.{Moment}
use Rattle.ats_events.specs.Order.{IsInRange}

-- no two entries have one moment
abbrev pub AreDistinct : {E : Type 0} → List (Moment × E) → Type 0
AreDistinct {E} entries = AllPairs (λ (x y : Moment × E). x.0 ≢ y.0) entries

-- the numbers of each moment fit the types of its fields
abbrev pub AreInRange : {E : Type 0} → List (Moment × E) → Type 0
AreInRange {E} entries = All (λ (x : Moment × E). IsInRange x.0) entries

-- no two entries have one moment, moments fit their types, and all are after the last popped one
pub record IsKept {E : Type 0} (before : Moment → Moment → Type 0) (entries : List (Moment × E)) (last : Option Moment)
    : Type 0 where
  pub distinct : AreDistinct entries
  pub in_range : AreInRange entries
  pub after : ForSome last (λ moment. All (λ (x : Moment × E). before moment x.0) entries)

-- time, phase and rank of a moment as the digits of one number
abbrev pub number_of : ℕ → ℕ → ℕ → ℕ
number_of at phase rank = at * 2 ^ 64 + phase * 2 ^ 32 + rank
