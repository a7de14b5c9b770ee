use Rattle.std.proofs.Common.{◌≡◌, ℕ, List, [], Option, Some, Result, inl, inr, Ok, Err, refl, sym, ap, subst}
use Rattle.std.proofs.Common.{◌∙◌, lit<}
use Rattle.std.specs.Prelude.{IfSome, IfOk, ◌⊎◌, codes}
use Rattle.std.specs.Global.{Vec}
use Rattle.std.proofs.lemmas.Option.{same_Some, none-some}
use Rattle.ats_io.specs.Outside.{Rose, TakesPrefix}
use Rattle.ats_command_input.specs.Command.{Command, Shape, Show, Bound, Explain, Check, Replay, Unknown, Capture}
use Rattle.ats_command_input.specs.Command.{Conform}
use Rattle.ats_command_input.specs.Command.{Admit, Generate, Settings}
use Rattle.ats_command_input.specs.Command.{Buffers, Peaks}
use Rattle.ats_command_input.specs.Command.{LrqShape, LrqBound, LrqCheck}
use Rattle.ats_command_input.specs.Command.{Record, Witness}
use Rattle.ats_command_input.specs.Command.{Releases, Fit}
use Rattle.ats_command_input.specs.Answer.{Answer, HasText, words_answer}
use Rattle.ats_command_due.specs.Due.{IsAnswer, IsDueAnswer, IsTold, told_bytes}
use Rattle.ats_command_due.specs.Calls.{Answers, Printed, PrintedPrefix, ReadRose, IsCalm, StatusIsDue}
use Rattle.ats_command_input.specs.Outcome.{Prints, PrintsFront, answer_of}
use Rattle.ats_command_input.specs.declared.outcome.Stop.{Stop}
use Rattle.ats_command_input.specs.declared.outcome.Stop.TheVariants as stop
use Rattle.ats_command_input.specs.declared.status.Status.{Status}
use Rattle.ats_command_input.specs.declared.status.Status.TheVariants.{Done, Words, Input, Refused, ReadFailed}
use Rattle.ats_command_input.specs.declared.status.Status.TheVariants.{WriteFailed}
use Rattle.ats_command_input.specs.declared.status.Status.TheVariants.{NoMemory}

-- the answer that an outcome makes is due, where the files tell their bytes
made_due : (told : List ℕ → Option (List ℕ)) (command : Command) (outcome : Result (Vec ℕ) Stop) (answer : Answer)
    → Answers told command outcome → answer_of outcome ≡ Some answer → IsTold told command
    → IsDueAnswer told command answer
made_due told command outcome answer answers made is_told =
    record {
      is_told = is_told;
      answers = subst (λ (o : Option Answer). IfSome o (IsAnswer (told_bytes told) command)) made (answers is_told);
    }

other_status : (a b : Answer) → (a.status ≡ b.status → ⊥) → Some a ≡ Some b → ⊥
other_status a b differs h = differs (ap (λ (answer : Answer). answer.status) (same_Some a b h))

input_is_not_done : Input ≡ Done → ⊥
input_is_not_done h = cc

refused_is_not_done : Refused ≡ Done → ⊥
refused_is_not_done h = cc

-- once the answer that an outcome makes was printed, a due text was
pub printed_due : (told : List ℕ → Option (List ℕ)) (command : Command) (outcome : Result (Vec ℕ) Stop)
    (status : Status) (old new : Option (List ℕ))
    → Answers told command outcome → Prints outcome status old new → Printed told command status old new
printed_due told command outcome status old new answers prints =
    (prints.0, prints.1, made_due told command outcome (record { status = status; text = prints.0 }) answers prints.2)

-- the same of a front of it
pub front_due : (told : List ℕ → Option (List ℕ)) (command : Command) (outcome : Result (Vec ℕ) Stop)
    (old new : Option (List ℕ))
    → Answers told command outcome → PrintsFront outcome old new → PrintedPrefix told command old new
front_due told command outcome old new answers prints =
    λ is_told. (prints.0, made_due told command outcome prints.0 answers prints.1 is_told, prints.2)

-- a status that is printed where no fault came is due
pub ends_as_due : (told : List ℕ → Option (List ℕ)) (command : Command) (status : Status) (old new : Option (List ℕ))
    (read write : Type 0)
    → (HasText status → Printed told command status old new) → (status ≡ ReadFailed → read)
    → (status ≡ WriteFailed → write)
    → IsTold told command → ¬ read → ¬ write → (status ≡ NoMemory) ⊎ StatusIsDue told command status
ends_as_due told command Done old new read write printed failed cut is_told calm quiet = let p = printed tt in
    inr (record { status = Done; text = p.0 }, p.2 is_told, refl)
ends_as_due told command Words old new read write printed failed cut is_told calm quiet = let p = printed tt in
    inr (record { status = Words; text = p.0 }, p.2 is_told, refl)
ends_as_due told command Input old new read write printed failed cut is_told calm quiet = let p = printed tt in
    inr (record { status = Input; text = p.0 }, p.2 is_told, refl)
ends_as_due told command Refused old new read write printed failed cut is_told calm quiet = let p = printed tt in
    inr (record { status = Refused; text = p.0 }, p.2 is_told, refl)
ends_as_due told command ReadFailed old new read write printed failed cut is_told calm quiet =
    absurd (calm (failed refl))
ends_as_due told command WriteFailed old new read write printed failed cut is_told calm quiet =
    absurd (quiet (cut refl))
ends_as_due told command NoMemory old new read write printed failed cut is_told calm quiet = inl refl

-- where no fault came at a file of the command, none came at one that it reads
pub calm_unread : (told : List ℕ → Option (List ℕ)) (command : Command) (before after : List ℕ → ℕ)
    → IsCalm command before after → ¬ ReadRose told command before after
calm_unread told (Shape file) before after calm = λ rose. let At : List ℕ → Type 0 =
    λ name. Rose (before name) (after name) in calm 0 [] (lit< tt) (subst At rose.1 rose.2)
calm_unread told (Show net) before after calm = λ rose. let At : List ℕ → Type 0 =
    λ name. Rose (before name) (after name) in calm 0 [] (lit< tt) (subst At rose.1 rose.2)
calm_unread told (Bound net) before after calm = λ rose. let At : List ℕ → Type 0 =
    λ name. Rose (before name) (after name) in calm 0 [] (lit< tt) (subst At rose.1 rose.2)
calm_unread told (Explain net) before after calm = λ rose. let At : List ℕ → Type 0 =
    λ name. Rose (before name) (after name) in calm 0 [] (lit< tt) (subst At rose.1 rose.2)
calm_unread told (Settings net) before after calm = λ rose. let At : List ℕ → Type 0 =
    λ name. Rose (before name) (after name) in calm 0 [] (lit< tt) (subst At rose.1 rose.2)
calm_unread told (Check net certificate) before after calm = λ rose. let At : List ℕ → Type 0 =
    λ name. Rose (before name) (after name) in
    elim rose.1 [
      | inl first ↦ calm 0 [] (lit< tt) (subst At first rose.2)
      | inr second ↦ calm 1 [] (lit< tt) (subst At second.0 rose.2)
    ]
calm_unread told (Buffers net certificate) before after calm = λ rose. let At : List ℕ → Type 0 =
    λ name. Rose (before name) (after name) in
    elim rose.1 [
      | inl first ↦ calm 0 [] (lit< tt) (subst At first rose.2)
      | inr second ↦ calm 1 [] (lit< tt) (subst At second.0 rose.2)
    ]
calm_unread told (Conform net schedule) before after calm = λ rose. let At : List ℕ → Type 0 =
    λ name. Rose (before name) (after name) in
    elim rose.1 [
      | inl first ↦ calm 0 [] (lit< tt) (subst At first rose.2)
      | inr second ↦ calm 1 [] (lit< tt) (subst At second.0 rose.2)
    ]
calm_unread told (Admit net requests) before after calm = λ rose. let At : List ℕ → Type 0 =
    λ name. Rose (before name) (after name) in
    elim rose.1 [
      | inl first ↦ calm 0 [] (lit< tt) (subst At first rose.2)
      | inr second ↦ calm 1 [] (lit< tt) (subst At second.0 rose.2)
    ]
calm_unread told (Replay net schedule order) before after calm = λ rose. let At : List ℕ → Type 0 =
    λ name. Rose (before name) (after name) in
    elim rose.1 [
      | inl first ↦ calm 0 [] (lit< tt) (subst At first rose.2)
      | inr second ↦ calm 1 [] (lit< tt) (subst At second.0 rose.2)
    ]
calm_unread told (Capture net station file order) before after calm = λ rose. let At : List ℕ → Type 0 =
    λ name. Rose (before name) (after name) in
    elim rose.1 [
      | inl first ↦ calm 0 [] (lit< tt) (subst At first rose.2)
      | inr second ↦ calm 1 [] (lit< tt) (subst At second.0 rose.2)
    ]
calm_unread told (Generate net seed count) before after calm = λ rose. let At : List ℕ → Type 0 =
    λ name. Rose (before name) (after name) in calm 0 [] (lit< tt) (subst At rose.1 rose.2)
calm_unread told (Peaks net certificate schedule order) before after calm = λ rose. let At : List ℕ → Type 0 =
    λ name. Rose (before name) (after name) in
    elim rose.1 [
      | inl first ↦ calm 0 [] (lit< tt) (subst At first rose.2)
      | inr behind ↦ elim behind [
        | inl second ↦ calm 1 [] (lit< tt) (subst At second.0 rose.2)
        | inr third ↦ calm 2 [] (lit< tt) (subst At third.0 rose.2)
      ]
    ]
calm_unread told (LrqShape file) before after calm = λ rose. let At : List ℕ → Type 0 =
    λ name. Rose (before name) (after name) in calm 0 [] (lit< tt) (subst At rose.1 rose.2)
calm_unread told (LrqBound net) before after calm = λ rose. let At : List ℕ → Type 0 =
    λ name. Rose (before name) (after name) in calm 0 [] (lit< tt) (subst At rose.1 rose.2)
calm_unread told (LrqCheck net certificate) before after calm = λ rose. let At : List ℕ → Type 0 =
    λ name. Rose (before name) (after name) in
    elim rose.1 [
      | inl first ↦ calm 0 [] (lit< tt) (subst At first rose.2)
      | inr second ↦ calm 1 [] (lit< tt) (subst At second.0 rose.2)
    ]
calm_unread told (Record net schedule order port) before after calm = λ rose. let At : List ℕ → Type 0 =
    λ name. Rose (before name) (after name) in
    elim rose.1 [
      | inl first ↦ calm 0 [] (lit< tt) (subst At first rose.2)
      | inr second ↦ calm 1 [] (lit< tt) (subst At second.0 rose.2)
    ]
calm_unread told (Witness net stream) before after calm = λ rose. let At : List ℕ → Type 0 =
    λ name. Rose (before name) (after name) in calm 0 [] (lit< tt) (subst At rose.1 rose.2)
calm_unread told (Releases net station file) before after calm = λ rose. let At : List ℕ → Type 0 =
    λ name. Rose (before name) (after name) in
    elim rose.1 [
      | inl first ↦ calm 0 [] (lit< tt) (subst At first rose.2)
      | inr second ↦ calm 1 [] (lit< tt) (subst At second.0 rose.2)
    ]
calm_unread told (Fit net schedule) before after calm = λ rose. let At : List ℕ → Type 0 =
    λ name. Rose (before name) (after name) in
    elim rose.1 [
      | inl first ↦ calm 0 [] (lit< tt) (subst At first rose.2)
      | inr second ↦ calm 1 [] (lit< tt) (subst At second.0 rose.2)
    ]
calm_unread told Unknown before after calm = λ rose. rose.1

-- a front of the line for words outside the table was printed
pub front_of_words : (told : List ℕ → Option (List ℕ)) (old new : Option (List ℕ))
    → TakesPrefix (codes "words\n") old new → PrintedPrefix told Unknown old new
front_of_words told old new front = λ is_told. (words_answer, record { is_told = is_told; answers = refl }, front)

-- once the line for words outside the table was printed, its status is due
pub words_end_as_due : (told : List ℕ → Option (List ℕ)) (status : Status) (write : Type 0) → IsTold told Unknown
    → (status ≡ Words) ⊎ (status ≡ WriteFailed) → (status ≡ WriteFailed → write) → ¬ write
    → (status ≡ NoMemory) ⊎ StatusIsDue told Unknown status
words_end_as_due told status write is_told (inl printed) failed quiet =
    inr (words_answer, record { is_told = is_told; answers = refl }, sym printed)
words_end_as_due told status write is_told (inr cut) failed quiet = absurd (quiet (failed cut))

one_text : (a b : Answer) → Some a ≡ Some b → a.text ≡ b.text
one_text a b h = ap (λ (answer : Answer). answer.text) (same_Some a b h)

-- where an outcome was printed as done, what holds of the text that an outcome has holds of what was printed
pub done_holds : (outcome : Result (Vec ℕ) Stop) (text : List ℕ) (P : List ℕ → Type 0)
    → IfOk outcome (λ (made : Vec ℕ). P made.items)
    → answer_of outcome ≡ Some (record { status = Done; text = text }) → P text
done_holds (Ok text') text P h made = subst P (one_text (record { status = Done; text = text'.items })
    (record { status = Done; text = text }) made) h
done_holds (Err (stop.Input why)) text P h made = absurd (other_status (record { status = Input; text = why.items })
    (record { status = Done; text = text }) input_is_not_done made)
done_holds (Err (stop.Refused why)) text P h made = absurd (other_status (record { status = Refused; text = why.items })
    (record { status = Done; text = text }) refused_is_not_done made)
done_holds (Err stop.ReadFailed) text P h made = absurd (none-some (record { status = Done; text = text }) made)
done_holds (Err stop.NoMemory) text P h made = absurd (none-some (record { status = Done; text = text }) made)

-- the line for words outside the table does not end as done
pub words_are_not_done : (status : Status) → (status ≡ Words) ⊎ (status ≡ WriteFailed) → status ≡ Done → ⊥
words_are_not_done status (inl words) done = let clash : Words ≡ Done = sym words ∙ done in cc
words_are_not_done status (inr cut) done = let clash : WriteFailed ≡ Done = sym cut ∙ done in cc
