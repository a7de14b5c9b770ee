use Rattle.std.specs.Prelude.{ℕ, ◌<◌, ◌≤◌, List, length, Option, Result, Err, IsOkUnless}
use Rattle.ats_num.specs.Failure.{Gives}
use Rattle.ats_num.specs.declared.failure.Failure.{Failure}
use Rattle.ats_num.specs.declared.failure.Failure.TheVariants.{NoMemory}
use Rattle.ats_io.specs.Outside.{Rose, IfTold}
use Rattle.ats_io.specs.declared.fault.ReadFault.{ReadFault}
use Rattle.ats_io.specs.declared.fault.ReadFault.TheVariants.{TooLong}

-- where the bytes of a file are told and no fault comes at it: bytes within the limit are read, unless memory runs out
abbrev pub WholeIsDue : {A : Type 0} → Option (List ℕ) → ℕ → ℕ → ℕ → Result A (Failure ReadFault) → Type 0
WholeIsDue held before after limit result =
    IfTold held (λ bytes. length bytes ≤ limit → ¬ Rose before after → IsOkUnless result NoMemory)

-- and more bytes are too long, unless memory runs out
abbrev pub TooLongIsDue : {A : Type 0} → Option (List ℕ) → ℕ → ℕ → ℕ → Result A (Failure ReadFault) → Type 0
TooLongIsDue held before after limit result =
    IfTold held (λ bytes. limit < length bytes → ¬ Rose before after → Gives result (Err TooLong))
