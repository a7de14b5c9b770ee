use Rattle.std.specs.Prelude.{◌≡◌, ◌≢◌, ◌<◌, ◌∷◌, length, Some, All, IsPermutation}
use Rattle.std.specs.Option.{ForSome}
use Rattle.ats_events.specs.declared.moment.Moment.{Moment}
use Rattle.ats_events.specs.Contents.{Contents}

-- an agenda with room gets one entry more, of a new moment that is after the last popped one
pub record Inserts {O E : Type 0} (before : Moment → Moment → Type 0) (old new : Contents O E)
    (entry : Moment × E) : Type 0 where
  pub room : length old.entries < old.capacity
  pub apart : All (λ other. other.0 ≢ entry.0) old.entries
  pub after : ForSome old.last (λ last. before last entry.0)
  pub entries : IsPermutation (entry ∷ old.entries) new.entries
  pub last : new.last ≡ old.last
  pub capacity : new.capacity ≡ old.capacity
  pub order : new.order ≡ old.order

-- an agenda loses this entry, which is before all that stay; its moment is then the one popped last, and nothing else
-- changes
pub record Pops {O E : Type 0} (before : Moment → Moment → Type 0) (old new : Contents O E)
    (entry : Moment × E) : Type 0 where
  pub entries : IsPermutation old.entries (entry ∷ new.entries)
  pub first : All (λ other. before entry.0 other.0) new.entries
  pub last : new.last ≡ Some entry.0
  pub capacity : new.capacity ≡ old.capacity
  pub order : new.order ≡ old.order
