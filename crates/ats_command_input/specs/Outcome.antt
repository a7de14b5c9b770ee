use Rattle.std.specs.Prelude.{◌≡◌, ℕ, List, [], ◌∷◌, Option, Some, None, Result, Ok, Err, IsErrOf}
use Rattle.std.specs.Global.{Vec}
use Rattle.ats_num.specs.Failure as reading
use Rattle.ats_num.specs.declared.failure.Failure.{Failure}
use Rattle.ats_io.specs.Outside.{Continues, Rose, TakesPrefix, appended}
use Rattle.ats_io.specs.Reads.{Read, ReadsInTurn}
use Rattle.ats_command_input.specs.Answer.{Answer}
use Rattle.ats_command_input.specs.Input.{declared_in}
use Rattle.ats_command_input.specs.declared.status.Status.{Status}
use Rattle.ats_command_input.specs.declared.status.Status.TheVariants as status
use Rattle.ats_command_input.specs.declared.outcome.Stop.{Stop}
use Rattle.ats_command_input.specs.declared.outcome.Stop.TheVariants.{Input, Refused, ReadFailed, NoMemory}

-- a stop with a text is what the bytes of a file give; a read that failed and want of memory stand for anything
abbrev pub IsStopOf : {A : Type 0} → Stop → Result A Answer → Type 0
IsStopOf (Input text) due = due ≡ Err (record { status = status.Input; text = text.items })
IsStopOf (Refused text) due = due ≡ Err (record { status = status.Refused; text = text.items })
IsStopOf ReadFailed due = Unit {0}
IsStopOf NoMemory due = Unit {0}

-- what a call came to, its value seen so, is what the bytes of a file give
abbrev pub Gives : {X A : Type 0} → (X → A) → Result X Stop → Result A Answer → Type 0
Gives seen (Ok x) due = due ≡ Ok (seen x)
Gives seen (Err stop) due = IsStopOf stop due

-- what a call came to that read the file of this name: it stops with ReadFailed only where a fault came at the name,
-- and else no count of faults changed; the outside goes on; the file was read once, from its front, and no other was
pub record ReadsFile {S X : Type 0} (told : S → List ℕ → Option (List ℕ)) (faults : S → List ℕ → ℕ)
    (reads : S → List Read) (name : List ℕ) (old new : S) (result : Result X Stop) : Type 0 where
  pub failed : IsErrOf result ReadFailed → Rose (faults old name) (faults new name)
  pub calm : ¬ IsErrOf result ReadFailed → faults new ≡ faults old
  pub continues : Continues told faults old new
  pub in_turn : ReadsInTurn (name ∷ []) (reads old) (reads new)

-- what was read from a file is passed on: what the reading was to give, or an answer with the words that its fault is
-- shown as
abbrev pub PassesOn : {X F : Type 0} → (F → Option (List ℕ)) → List ℕ → Result X (Failure F) → Result X Stop → Type 0
PassesOn {X} {F} shown file read result = (words : F → List ℕ) (due : Result X F)
    → ((fault : F) → shown fault ≡ Some (words fault))
    → reading.Gives read due → Gives (λ (x : X). x) result (declared_in file words due)

-- the answer that the outcome of a command makes, if it makes one
abbrev pub answer_of : Result (Vec ℕ) Stop → Option Answer
answer_of (Ok text) = Some (record { status = status.Done; text = text.items })
answer_of (Err (Input text)) = Some (record { status = status.Input; text = text.items })
answer_of (Err (Refused text)) = Some (record { status = status.Refused; text = text.items })
answer_of (Err ReadFailed) = None
answer_of (Err NoMemory) = None

-- the answer that an outcome makes, with this status, was printed, whole
abbrev pub Prints : Result (Vec ℕ) Stop → Status → Option (List ℕ) → Option (List ℕ) → Type 0
Prints outcome status old new = (text : List ℕ) × (new ≡ appended old text)
    × (answer_of outcome ≡ Some (record { status = status; text = text }))

-- a front of its text was printed
abbrev pub PrintsFront : Result (Vec ℕ) Stop → Option (List ℕ) → Option (List ℕ) → Type 0
PrintsFront outcome old new = (answer : Answer) × (answer_of outcome ≡ Some answer) × TakesPrefix answer.text old new
