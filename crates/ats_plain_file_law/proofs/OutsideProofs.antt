use Rattle.std.specs.Prelude.{ℕ, List, Option}
use Rattle.ats_plain_file_law.specs.Outside.{GoesOn}

-- When files go on, of whichever kind they are.

pub outside_goes_on : {S : Type 0} (told : S → List ℕ → Option (List ℕ)) (faults : S → List ℕ → ℕ)
    → GoesOn told faults
outside_goes_on told faults old new = (
  (λ is. (is.holds, is.counts)),
  (λ is. record { holds = is.0; counts = is.1 }),
)
