use Rattle.std.proofs.Common.{◌≡◌, ℕ, List, Option, Some, get_or, refl, arith}
use Rattle.std.specs.Prelude.{IsSome}
use Rattle.ats_io.specs.Outside.{Rose}
use Rattle.ats_command_input.specs.Command.{Command, file_words}
use Rattle.ats_command_due.specs.Due.{IsTold}
use Rattle.ats_command_due.specs.Calls.{IsCalm}

told_some : (o : Option (List ℕ)) (bytes : List ℕ) → o ≡ Some bytes → IsSome o
told_some o bytes h = rw h refl

-- files that tell every name tell those of a command
pub surely_told : (told : List ℕ → Option (List ℕ)) (bytes : List ℕ → List ℕ)
    → ((name : List ℕ) → told name ≡ Some (bytes name)) → (command : Command) → IsTold told command
surely_told told bytes all command = λ k d lt. told_some _ _ (all (get_or (file_words command) k d))

-- a count that stays at 0 has not risen
pub no_rise : (before now : ℕ) → now ≡ 0 → ¬ Rose before now
no_rise before now h = λ rose. omega arith

pub surely_calm : (before after : List ℕ → ℕ) → ((name : List ℕ) → after name ≡ 0) → (command : Command)
    → IsCalm command before after
surely_calm before after none command = λ k d lt. no_rise _ _ (none _)
