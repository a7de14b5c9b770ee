-- What stands in place of what files declare, and when it is told with the status Input.
use Rattle.std.proofs.Common.{◌≡◌, ℕ, ◌<◌, ◌≤◌, Bool, true, false, cond, List, length, Option, Some, None}
use Rattle.std.proofs.Common.{Result, Ok, Err, refl, sym, subst, ◌∙◌, arith, inl, inr}
use Rattle.std.specs.Prelude.{IfErr, codes, nat_lt}
use Rattle.ats_num.specs.Failure.{◌>>=◌}
use Rattle.ats_network.specs.Network.{DeclaredNetwork}
use Rattle.ats_command_input.specs.Answer.{Answer, input_answer, settled}
use Rattle.ats_command_input.specs.Input.{bytes_in, declared_in}
use Rattle.ats_command_input.specs.declared.status.Status.{Status}
use Rattle.ats_command_input.specs.declared.status.Status.TheVariants.{Done, Input, Refused}
use Rattle.ats_command_due.specs.Conformed.{IsAnswerTo, JudgesScheduled}
use Rattle.ats_command_due.specs.Judged.{judged}
use Rattle.ats_command_due.specs.Replayed.{IsOneOf, Scheduled}
use Rattle.ats_command_due.specs.Set.{TellsSettings}
use Rattle.ats_answer_law.specs.Faults.{IsAtFault}

-- with the status Input, the text of an answer says this
abbrev pub Tells : (List ℕ → Type 0) → Answer → Type 0
Tells Fails answer = answer.status ≡ Input → Fails answer.text

done_is_not : ◌≡◌ {A = Status} Done Input → ⊥
done_is_not h = cc

pub refused_is_not : ◌≡◌ {A = Status} Refused Input → ⊥
refused_is_not h = cc

long_is : (most n : ℕ) → nat_lt most n ≡ true → most < n
long_is most n h = grind arith

few_is : (most n : ℕ) → nat_lt most n ≡ false → n ≤ most
few_is most n h = grind arith

-- a file that does not declare what it should is told so
pub file_fails : {A F : Type 0} (most : ℕ) (file bytes : List ℕ) (words : F → List ℕ) (reading : List ℕ → Result A F)
    → IfErr (bytes_in most file bytes >>= λ text. declared_in file words (reading text))
    (Tells (IsAtFault most reading words file bytes))
file_fails {A} {F} most file bytes words reading = choose (nat_lt most (length bytes)) refl
  where
    Fails : List ℕ → Type 0
    Fails = IsAtFault most reading words file bytes

    read : (declared : Result A F) → length bytes ≤ most → reading bytes ≡ declared
        → IfErr (declared_in file words declared) (Tells Fails)
    read (Ok value) few is = tt
    read (Err fault) few is = λ input. inr (fault, record { few = few; first = is; written = refl })

    choose : (long : Bool) → nat_lt most (length bytes) ≡ long
        → IfErr (cond long (Err (input_answer file (codes "too-long"))) (Ok bytes)
        >>= λ text. declared_in file words (reading text)) (Tells Fails)
    choose true h = λ input. inl (record { long = long_is most (length bytes) h; written = refl })
    choose false h = read (reading bytes) (few_is most (length bytes) h) refl

-- what is told is told of more as well
pub told_more : {A : Type 0} (Fails More : List ℕ → Type 0) (due : Result A Answer)
    → ((text : List ℕ) → Fails text → More text) → IfErr due (Tells Fails) → IfErr due (Tells More)
told_more Fails More (Ok x) more told = tt
told_more Fails More (Err e) more told = λ input. more e.text (told input)

-- one step after another
pub steps_fail : {A B : Type 0} (Fails : List ℕ → Type 0) (due : Result A Answer) (next : A → Result B Answer)
    → IfErr due (Tells Fails) → ((x : A) → due ≡ Ok x → IfErr (next x) (Tells Fails))
    → IfErr (due >>= next) (Tells Fails)
steps_fail Fails (Ok x) next first later = later x refl
steps_fail Fails (Err e) next first later = first

-- an answer that stands in place of a text
pub settled_fails : (Fails : List ℕ → Type 0) (due : Result (List ℕ) Answer) → IfErr due (Tells Fails)
    → Tells Fails (settled due)
settled_fails Fails (Ok text) told = λ input. absurd (done_is_not input)
settled_fails Fails (Err e) told = told

-- a refusal is told with another status
pub judged_fails : {A : Type 0} (Fails : List ℕ → Type 0) (value : A) (why : Option (List ℕ))
    → IfErr (judged value why) (Tells Fails)
judged_fails Fails value None = tt
judged_fails Fails value (Some reason) = λ input. absurd (refused_is_not input)

-- an answer that stands in place of one of several texts, or of a judgement
pub one_fails : {A : Type 0} (Fails : List ℕ → Type 0) (Text : A → List ℕ → Type 0) (due : Result A Answer)
    (answer : Answer) → IfErr due (Tells Fails) → IsOneOf Text due answer → Tells Fails answer
one_fails Fails Text (Ok x) answer told is = λ input. absurd (done_is_not (sym is.0 ∙ input))
one_fails Fails Text (Err e) answer told is = subst (Tells Fails) (sym is) told

pub judgement_fails : (Fails : List ℕ → Type 0) (due : Result Scheduled Answer) (answer : Answer)
    → IfErr due (Tells Fails) → IsAnswerTo JudgesScheduled due answer → Tells Fails answer
judgement_fails Fails (Ok scheduled) answer told (inl is) =
    subst (Tells Fails) (sym is.done) (λ input. absurd (done_is_not input))
judgement_fails Fails (Ok scheduled) answer told (inr (broken, is)) =
    subst (Tells Fails) (sym is.refused) (λ input. absurd (refused_is_not input))
judgement_fails Fails (Err e) answer told is = subst (Tells Fails) (sym is) told

-- nor is the telling of settings
pub settings_fail : (Fails : List ℕ → Type 0) (due : Result DeclaredNetwork Answer) (answer : Answer)
    → IfErr due (Tells Fails) → IsAnswerTo TellsSettings due answer → Tells Fails answer
settings_fail Fails (Ok network) answer told is =
    subst (Tells Fails) (sym is.1.done) (λ input. absurd (done_is_not input))
settings_fail Fails (Err e) answer told is = subst (Tells Fails) (sym is) told
