use Rattle.std.specs.Prelude.{◌≡◌, ◌↔◌, ℕ, ◌≤◌, List, Option}
use Rattle.ats_io.specs.Outside.{Continues}

-- files of any kind go on from one state to another where the same is told under each name, and no count of faults fell
abbrev pub GoesOn : {S : Type 0} → (S → List ℕ → Option (List ℕ)) → (S → List ℕ → ℕ) → Type 0
GoesOn {S} told faults = (old new : S) → Continues told faults old new
    ↔ ((told new ≡ told old) × ((name : List ℕ) → faults old name ≤ faults new name))
