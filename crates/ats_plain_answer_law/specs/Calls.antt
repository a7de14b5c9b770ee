use Rattle.std.specs.Prelude.{◌≡◌, ◌↔◌, ◌⊎◌, ℕ, List, Option, Ok, Err, IsErrOf, Result}
use Rattle.std.specs.Global.{Vec}
use Rattle.ats_io.specs.Outside.{Continues, TakesPrefix, appended}
use Rattle.ats_io.specs.Reads.{Read, ReadsInTurn}
use Rattle.ats_command_input.specs.Answer.{HasText}
use Rattle.ats_command_input.specs.Command.{Command, file_words}
use Rattle.ats_command_input.specs.declared.outcome.Stop.{Stop}
use Rattle.ats_command_input.specs.declared.outcome.Stop.TheVariants.{Input, NoMemory, ReadFailed, Refused}
use Rattle.ats_command_input.specs.declared.status.Status.{Status}
use Rattle.ats_command_input.specs.declared.status.Status.TheVariants as ends
use Rattle.ats_command_due.specs.Calls.{Answers, Printed, PrintedPrefix, ReadRose, ReadsFiles, StatusIsDue}
use Rattle.ats_command_due.specs.Due.{IsAnswer, IsTold, told_bytes}
use Rattle.ats_command_due.specs.Soundness.{PrintsAsPromised, Promises}

-- what a command came to is an answer to it, where the bytes of its files are told: with Done, with Input or with
-- Refused, and its text; where a read failed or memory ran out nothing is asked
pub record OutcomesAreAnswered : Type 0 where
  pub done : (told : List ℕ → Option (List ℕ)) (command : Command) (text : Vec ℕ) → Answers told command (Ok text)
      ↔ (IsTold told command
      → IsAnswer (told_bytes told) command (record { status = ends.Done; text = text.items }))
  pub faulty : (told : List ℕ → Option (List ℕ)) (command : Command) (text : Vec ℕ)
      → Answers told command (Err (Input text))
      ↔ (IsTold told command
      → IsAnswer (told_bytes told) command (record { status = ends.Input; text = text.items }))
  pub refused : (told : List ℕ → Option (List ℕ)) (command : Command) (text : Vec ℕ)
      → Answers told command (Err (Refused text))
      ↔ (IsTold told command
      → IsAnswer (told_bytes told) command (record { status = ends.Refused; text = text.items }))
  pub unread : (told : List ℕ → Option (List ℕ)) (command : Command) → Answers told command (Err ReadFailed)
      ↔ Unit {0}
  pub no_memory : (told : List ℕ → Option (List ℕ)) (command : Command) → Answers told command (Err NoMemory)
      ↔ Unit {0}

-- with which statuses a text is printed; and what a call has printed: just this text, whole, which with the status is
-- an answer to the command, or a front of the text of one. A status is due where the bytes of the files are told and
-- some text is an answer with it
pub record TextsArePrinted : Type 0 where
  pub has_text : (status : Status) → HasText status
      ↔ ((status ≡ ends.Done) ⊎ ((status ≡ ends.Words) ⊎ ((status ≡ ends.Input) ⊎ (status ≡ ends.Refused))))
  pub whole : (told : List ℕ → Option (List ℕ)) (command : Command) (status : Status) (old new : Option (List ℕ))
      → Printed told command status old new
      ↔ ((text : List ℕ) × (new ≡ appended old text)
      × (IsTold told command → IsAnswer (told_bytes told) command (record { status = status; text = text })))
  pub front : (told : List ℕ → Option (List ℕ)) (command : Command) (old new : Option (List ℕ))
      → PrintedPrefix told command old new
      ↔ (IsTold told command → (status : Status) × (text : List ℕ)
      × IsAnswer (told_bytes told) command (record { status = status; text = text }) × TakesPrefix text old new)
  pub by_status : (told : List ℕ → Option (List ℕ)) (command : Command) (status : Status)
      → StatusIsDue told command status
      ↔ (IsTold told command × ((text : List ℕ)
      × IsAnswer (told_bytes told) command (record { status = status; text = text })))

-- a text is printed as promised where it stands, whole, behind what was there, and what the command promises holds of
-- it
pub record PromisesArePrinted : Type 0 where
  pub printed : (told : List ℕ → Option (List ℕ)) (command : Command) (old new : Option (List ℕ))
      → PrintsAsPromised told command old new
      ↔ ((text : List ℕ) × (new ≡ appended old text) × Promises told command text)

-- a command that reads its files, of whichever kind they are, stops with ReadFailed only where a fault came at one that
-- it comes to, and else no count of faults changed; the outside goes on; and its files were read in turn, and no others
abbrev pub ReadsAsAsked : {S : Type 0} → (S → List ℕ → Option (List ℕ)) → (S → List ℕ → ℕ) → (S → List Read) → Type 0
ReadsAsAsked {S} told faults made = (command : Command) (old new : S) (result : Result (Vec ℕ) Stop)
    → ReadsFiles told faults made command old new result
    ↔ ((IsErrOf result ReadFailed → ReadRose (told old) command (faults old) (faults new))
    × ((¬ IsErrOf result ReadFailed) → faults new ≡ faults old) × Continues told faults old new
    × ReadsInTurn (file_words command) (made old) (made new))

-- the same, where the states of the outside have numbers
pub record CallsReadFiles : Type 0 where
  pub reads : (told : ℕ → List ℕ → Option (List ℕ)) (faults : ℕ → List ℕ → ℕ) (made : ℕ → List Read)
      (command : Command) (old new : ℕ) (result : Result (Vec ℕ) Stop)
      → ReadsFiles told faults made command old new result
      ↔ ((IsErrOf result ReadFailed → ReadRose (told old) command (faults old) (faults new))
      × ((¬ IsErrOf result ReadFailed) → faults new ≡ faults old) × Continues told faults old new
      × ReadsInTurn (file_words command) (made old) (made new))

pub record CallsAreAnswered : Type 0 where
  pub outcomes : OutcomesAreAnswered
  pub printing : TextsArePrinted
  pub promises : PromisesArePrinted
  pub reading : CallsReadFiles
