use Rattle.std.specs.Prelude.{◌≡◌, List, [], ◌∷◌, Option, Some, None}
use Rattle.ats_events.specs.declared.moment.Moment.{Moment}
use Rattle.ats_events.specs.Contents.{Contents}
use Rattle.ats_events.specs.Steps.{Inserts, Pops}

-- one call: an entry is inserted, or a pop gives an entry or none
pub data Step (E : Type 0) : Type 0 where
  Insert : Moment × E → Step E
  Pop : Option (Moment × E) → Step E

-- what a call makes of an agenda
abbrev pub Makes : {O E : Type 0} → (Moment → Moment → Type 0) → Contents O E → Step E → Contents O E → Type 0
Makes before old (Insert entry) new = Inserts before old new entry
Makes before old (Pop (Some entry)) new = Pops before old new entry
Makes before old (Pop None) new = (old.entries ≡ []) × (new ≡ old)

-- what a list of calls makes of an agenda, each within its conditions
abbrev pub MakeInTurn : {O E : Type 0} → (Moment → Moment → Type 0) → Contents O E → List (Step E)
    → Contents O E → Type 0
MakeInTurn before old [] new = new ≡ old
MakeInTurn {O} {E} before old (step ∷ steps) new =
    (next : Contents O E) × Makes before old step next × MakeInTurn before next steps new

-- the entries that these calls inserted, in their order
abbrev pub inserted_of : {E : Type 0} → List (Step E) → List (Moment × E)
inserted_of [] = []
inserted_of (Insert entry ∷ steps) = entry ∷ inserted_of steps
inserted_of (Pop entry ∷ steps) = inserted_of steps

-- the entries that they popped, in their order
abbrev pub popped_of : {E : Type 0} → List (Step E) → List (Moment × E)
popped_of [] = []
popped_of (Insert entry ∷ steps) = popped_of steps
popped_of (Pop (Some entry) ∷ steps) = entry ∷ popped_of steps
popped_of (Pop None ∷ steps) = popped_of steps
