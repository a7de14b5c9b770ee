use Rattle.std.specs.Prelude.{◌≡◌, ℕ, List, IfSome, IsErrOf, Option, Result, All}
use Rattle.std.specs.Global.{Vec}
use Rattle.ats_io.specs.Outside.{Continues, Rose, TakesPrefix, appended}
use Rattle.ats_io.specs.Reads.{Read, ReadsInTurn}
use Rattle.ats_command_input.specs.Command.{Command, file_words}
use Rattle.ats_command_input.specs.Answer.{Answer}
use Rattle.ats_command_input.specs.Outcome.{answer_of}
use Rattle.ats_command_input.specs.declared.outcome.Stop.{Stop}
use Rattle.ats_command_input.specs.declared.outcome.Stop.TheVariants.{ReadFailed}
use Rattle.ats_command_due.specs.Due.{IsAnswer, IsDueAnswer, IsTold, Reaches, told_bytes}
use Rattle.ats_command_input.specs.declared.status.Status.{Status}

-- where the files tell their bytes, the answer that an outcome makes is one to the command
abbrev pub Answers : (List ℕ → Option (List ℕ)) → Command → Result (Vec ℕ) Stop → Type 0
Answers told command outcome = IsTold told command → IfSome (answer_of outcome) (IsAnswer (told_bytes told) command)

-- a text was printed, whole; with the status it is due, where the files tell their bytes
abbrev pub Printed : (List ℕ → Option (List ℕ)) → Command → Status → Option (List ℕ) → Option (List ℕ) → Type 0
Printed told command status old new = (text : List ℕ) × (new ≡ appended old text)
    × (IsTold told command → IsDueAnswer told command (record { status = status; text = text }))

-- a front of a text was printed; the text is due, where the files tell their bytes
abbrev pub PrintedPrefix : (List ℕ → Option (List ℕ)) → Command → Option (List ℕ) → Option (List ℕ) → Type 0
PrintedPrefix told command old new = IsTold told command
    → (answer : Answer) × IsDueAnswer told command answer × TakesPrefix answer.text old new

-- a fault came at a file that the command comes to
abbrev pub ReadRose : (List ℕ → Option (List ℕ)) → Command → (List ℕ → ℕ) → (List ℕ → ℕ) → Type 0
ReadRose told command old new = (name : List ℕ) × Reaches told command name × Rose (old name) (new name)

-- what a command came to that reads its files: it stops with ReadFailed only where a fault came at one that it comes
-- to, and else no count of faults changed; the outside goes on; its files were read in turn, and no others
pub record ReadsFiles {S X : Type 0} (told : S → List ℕ → Option (List ℕ)) (faults : S → List ℕ → ℕ)
    (reads : S → List Read) (command : Command) (old new : S) (result : Result X Stop) : Type 0 where
  pub failed : IsErrOf result ReadFailed → ReadRose (told old) command (faults old) (faults new)
  pub calm : ¬ IsErrOf result ReadFailed → faults new ≡ faults old
  pub continues : Continues told faults old new
  pub in_turn : ReadsInTurn (file_words command) (reads old) (reads new)

-- no fault came at a file of the command
abbrev pub IsCalm : Command → (List ℕ → ℕ) → (List ℕ → ℕ) → Type 0
IsCalm command old new = All (λ (name : List ℕ). ¬ Rose (old name) (new name)) (file_words command)

-- an answer with this status is due
abbrev pub StatusIsDue : (List ℕ → Option (List ℕ)) → Command → Status → Type 0
StatusIsDue told command status = (answer : Answer) × IsDueAnswer told command answer × (answer.status ≡ status)
