use Rattle.std.specs.Prelude.{ℕ, List, ◌++◌, All, AllPairs, IsPermutation}
use Rattle.ats_events.specs.declared.moment.Moment.{Moment}
use Rattle.ats_events.specs.Order.{IsInRange}
use Rattle.ats_events.specs.Contents.{Contents, opened}
use Rattle.ats_events.specs.History.{Step, MakeInTurn, inserted_of, popped_of}

-- whatever is done with an agenda after it was opened, each popped moment is before all that are popped later
abbrev pub PopsAscend : (O E : Type 0) → (O → Moment → Moment → Type 0) → Type 0
PopsAscend O E before = (capacity : ℕ) (order : O) (steps : List (Step E)) (now : Contents O E) →
    All (λ (entry : Moment × E). IsInRange entry.0) (inserted_of steps) →
    MakeInTurn (before order) (opened capacity order) steps now →
    AllPairs (λ (x y : Moment × E). before order x.0 y.0) (popped_of steps)

-- and the entries that were inserted are those that were popped and those that it still has
abbrev pub EntriesAreTheRest : (O E : Type 0) → (O → Moment → Moment → Type 0) → Type 0
EntriesAreTheRest O E before = (capacity : ℕ) (order : O) (steps : List (Step E)) (now : Contents O E) →
    MakeInTurn (before order) (opened capacity order) steps now →
    IsPermutation (inserted_of steps) (popped_of steps ++ now.entries)
