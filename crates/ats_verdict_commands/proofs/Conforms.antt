-- What an answer to `conform` comes to, and that there is one.
use Rattle.std.proofs.Common.{◌≡◌, ℕ, Result, Ok, Err, refl, sym, subst}
use Rattle.std.specs.Prelude.{IsErrAnd}
use Rattle.std.specs.Global.{Vec}
use Rattle.ats_num.specs.Failure.{◌>>=◌}
use Rattle.ats_command_input.specs.Answer.{Answer}
use Rattle.ats_command_input.specs.Outcome.{IsStopOf}
use Rattle.ats_command_input.specs.declared.outcome.Stop.{Stop}
use Rattle.ats_command_input.specs.declared.outcome.Stop.TheVariants.{Input, Refused, ReadFailed, NoMemory}
use Rattle.ats_command_input.specs.declared.status.Status.TheVariants as status
use Rattle.ats_command_input.proofs.Steps.{err_is}
use Rattle.ats_command_due.specs.Conformed.{ComesTo, IsAnswerTo}

-- a stop comes in place of what is declared
stop_comes : {A : Type 0} (Is : A → Answer → Type 0) (stop : Stop) (due : Result A Answer) → IsStopOf stop due
    → ComesTo Is (Err stop) due
stop_comes {A} Is (Input text) due h =
    let answer : Answer = record { status = status.Input; text = text.items } in
    subst (λ (d : Result A Answer). IsAnswerTo Is d answer) (sym h) refl
stop_comes {A} Is (Refused text) due h =
    let answer : Answer = record { status = status.Refused; text = text.items } in
    subst (λ (d : Result A Answer). IsAnswerTo Is d answer) (sym h) refl
stop_comes Is ReadFailed due h = tt
stop_comes Is NoMemory due h = tt

-- and stops what goes on from it
pub stop_comes_to : {A : Type 0} (Is : A → Answer → Type 0) (result : Result (Vec ℕ) Stop) (stop : Stop)
    (due : Result A Answer) → IsErrAnd result (λ e. e ≡ stop) → IsStopOf stop due → ComesTo Is result due
stop_comes_to Is result stop due is stops =
    subst (λ (r : Result (Vec ℕ) Stop). ComesTo Is r due) (sym (err_is result stop is)) (stop_comes Is stop due stops)

-- where a value is declared, what goes on from it does
pub comes_on : {A B : Type 0} (Is : B → Answer → Type 0) (result : Result (Vec ℕ) Stop) (due : Result A Answer)
    (value : A) (next : A → Result B Answer) → due ≡ Ok value → ComesTo Is result (next value)
    → ComesTo Is result (due >>= next)
comes_on Is result due value next is comes = subst (λ d. ComesTo Is result (d >>= next)) (sym is) comes

-- and what comes of it is what comes of the declared value
pub comes_from : {A : Type 0} (Is : A → Answer → Type 0) (result : Result (Vec ℕ) Stop) (due : Result A Answer)
    (value : A) → due ≡ Ok value → ComesTo Is result (Ok value) → ComesTo Is result due
comes_from Is result due value is comes = subst (ComesTo Is result) (sym is) comes

-- an answer to what is declared is one to what is made of it
answer_made : {A B : Type 0} (Is : A → Answer → Type 0) (Made : B → Answer → Type 0) (make : A → B)
    (due : Result A Answer) (answer : Answer) → ((value : A) → Is value answer → Made (make value) answer)
    → IsAnswerTo Is due answer → IsAnswerTo Made (due >>= λ value. Ok (make value)) answer
answer_made Is Made make (Ok value) answer made h = made value h
answer_made Is Made make (Err other) answer made h = h

pub comes_made : {A B : Type 0} (Is : A → Answer → Type 0) (Made : B → Answer → Type 0) (make : A → B)
    (result : Result (Vec ℕ) Stop) (due : Result A Answer)
    → ((value : A) (answer : Answer) → Is value answer → Made (make value) answer) → ComesTo Is result due
    → ComesTo Made result (due >>= λ value. Ok (make value))
comes_made Is Made make (Ok text) due made h =
    answer_made Is Made make due (record { status = status.Done; text = text.items }) (λ value. made value _) h
comes_made Is Made make (Err (Input text)) due made h =
    answer_made Is Made make due (record { status = status.Input; text = text.items }) (λ value. made value _) h
comes_made Is Made make (Err (Refused text)) due made h =
    answer_made Is Made make due (record { status = status.Refused; text = text.items }) (λ value. made value _) h
comes_made Is Made make (Err ReadFailed) due made h = tt
comes_made Is Made make (Err NoMemory) due made h = tt
