use Rattle.std.specs.Prelude.{◌≡◌, ◌↔◌, ℕ, List, [], IsSome, Contains, Option, unwrap_or}
use Rattle.ats_command_input.specs.Answer.{Answer}
use Rattle.ats_command_input.specs.Command.{Command, file_words}
use Rattle.ats_command_due.specs.Due.{IsAnswer, IsDueAnswer, IsTold, told_bytes}

-- What it comes to that the files of a command are told, and that an answer is due, both ways. The clauses of `ats`
-- only ask for the first: one that asked for more would keep them.
pub record DueAnswersAreMeant : Type 0 where
  pub told : (told : List ℕ → Option (List ℕ)) (command : Command)
      → IsTold told command ↔ ((name : List ℕ) → Contains (file_words command) name → IsSome (told name))
  pub bytes : (told : List ℕ → Option (List ℕ)) (name : List ℕ) → told_bytes told name ≡ unwrap_or (told name) []
  pub due : (told : List ℕ → Option (List ℕ)) (command : Command) (answer : Answer)
      → IsDueAnswer told command answer
      ↔ (IsTold told command × IsAnswer (λ name. unwrap_or (told name) []) command answer)
