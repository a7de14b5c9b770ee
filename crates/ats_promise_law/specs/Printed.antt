use Rattle.std.specs.Prelude.{◌≡◌, ℕ, List, ◌++◌, Option, Some}
use Rattle.ats_soundness_law.specs.Runs.{ats_runs}
use Rattle.ats_command_input.specs.Answer.{Answer}
use Rattle.ats_command_input.specs.Command.{Command, Check, LrqCheck}
use Rattle.ats_command_input.specs.declared.status.Status.{Status}
use Rattle.ats_command_due.specs.Calls.{Printed, PrintedPrefix, StatusIsDue}
use Rattle.ats_command_due.specs.Due.{IsDueAnswer, IsTold}
use Rattle.ats_command_due.specs.Soundness.{PrintsAsPromised, lrq_runs}
use Rattle.ats_promise_law.specs.Laws.{SomeAreDeclared}

-- What the clauses of `ats` say of the bytes that are printed.

-- a sink that told what it held holds these bytes behind it, and no others
abbrev pub AreAdded : List ℕ → Option (List ℕ) → Option (List ℕ) → Type 0
AreAdded added old new = (held : List ℕ) → old ≡ Some held → new ≡ Some (held ++ added)

-- of a due text these bytes are the front, and they were printed
pub record IsFront (text front rest : List ℕ) (old new : Option (List ℕ)) : Type 0 where
  pub parts : text ≡ front ++ rest
  pub added : AreAdded front old new

-- what was printed whole is due with its status, and what was cut short is the front of a due text, where the files are
-- told; an answer is due with each status that is due; and what `check` and `lrq check` printed is what they promise
pub record PrintedTextsAreDue : Type 0 where
  pub whole : (told : List ℕ → Option (List ℕ)) (command : Command) (status : Status) (old new : Option (List ℕ))
      → Printed told command status old new
      → (text : List ℕ) × AreAdded text old new
      × (IsTold told command → IsDueAnswer told command (record { status = status; text = text }))
  pub cut_short : (told : List ℕ → Option (List ℕ)) (command : Command) (old new : Option (List ℕ))
      → PrintedPrefix told command old new → IsTold told command
      → (answer : Answer) × (front : List ℕ) × (rest : List ℕ) × IsDueAnswer told command answer
      × IsFront answer.text front rest old new
  pub by_status : (told : List ℕ → Option (List ℕ)) (command : Command) (status : Status)
      → StatusIsDue told command status
      → (text : List ℕ) × IsDueAnswer told command (record { status = status; text = text })
  pub check : (told : List ℕ → Option (List ℕ)) (net certificate : List ℕ) (old new : Option (List ℕ))
      → PrintsAsPromised told (Check net certificate) old new
      → (text : List ℕ) × AreAdded text old new
      × (IsTold told (Check net certificate)
      → SomeAreDeclared ats_runs told net certificate text)
  pub lrq_check : (told : List ℕ → Option (List ℕ)) (net certificate : List ℕ) (old new : Option (List ℕ))
      → PrintsAsPromised told (LrqCheck net certificate) old new
      → (text : List ℕ) × AreAdded text old new
      × (IsTold told (LrqCheck net certificate)
      → SomeAreDeclared lrq_runs told net certificate text)
