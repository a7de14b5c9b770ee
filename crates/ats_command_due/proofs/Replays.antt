-- What a call came to, where several texts may be due.
use Rattle.std.proofs.Common.{◌≡◌, ℕ, List, Result, Ok, Err, refl, sym, ap, subst}
use Rattle.std.specs.Prelude.{IfSome, IsErrAnd}
use Rattle.std.specs.Global.{Vec}
use Rattle.ats_num.specs.Failure.{◌>>=◌}
use Rattle.ats_command_input.specs.Answer.{Answer}
use Rattle.ats_command_input.specs.Outcome.{IsStopOf, answer_of}
use Rattle.ats_command_input.specs.declared.outcome.Stop.{Stop}
use Rattle.ats_command_input.specs.declared.outcome.Stop.TheVariants.{Input, Refused, ReadFailed, NoMemory}
use Rattle.ats_command_input.specs.declared.status.Status.TheVariants as status
use Rattle.ats_command_input.proofs.Steps.{stops_all, err_is}
use Rattle.ats_command_due.specs.Replayed.{GivesOne, IsOneOf}

-- the answer that an outcome makes is one of those that are due
pub one_settles : {A : Type 0} (Text : A → List ℕ → Type 0) (result : Result (Vec ℕ) Stop) (due : Result A Answer)
    → GivesOne Text result due → IfSome (answer_of result) (IsOneOf Text due)
one_settles {A} Text (Ok text) due h =
    let answer : Answer = record { status = status.Done; text = text.items } in
    subst (λ (d : Result A Answer). IsOneOf Text d answer) (sym h.1) (refl, h.2)
one_settles {A} Text (Err (Input text)) due h =
    let answer : Answer = record { status = status.Input; text = text.items } in
    subst (λ (d : Result A Answer). IsOneOf Text d answer) (sym h) refl
one_settles {A} Text (Err (Refused text)) due h =
    let answer : Answer = record { status = status.Refused; text = text.items } in
    subst (λ (d : Result A Answer). IsOneOf Text d answer) (sym h) refl
one_settles Text (Err ReadFailed) due h = tt
one_settles Text (Err NoMemory) due h = tt

-- a stop comes in place of a text, too
pub stop_gives_one : {A : Type 0} (Text : A → List ℕ → Type 0) (result : Result (Vec ℕ) Stop) (stop : Stop)
    (due : Result A Answer) → IsErrAnd result (λ e. e ≡ stop) → IsStopOf stop due → GivesOne Text result due
stop_gives_one Text result stop due is stops =
    subst (λ (r : Result (Vec ℕ) Stop). GivesOne Text r due) (sym (err_is result stop is)) stops

-- where a value is declared, what goes on from it does
pub one_goes_on : {A B : Type 0} (Text : B → List ℕ → Type 0) (result : Result (Vec ℕ) Stop) (due : Result A Answer)
    (value : A) (next : A → Result B Answer) → due ≡ Ok value → GivesOne Text result (next value)
    → GivesOne Text result (due >>= next)
one_goes_on Text result due value next is gives = subst (λ d. GivesOne Text result (d >>= next)) (sym is) gives

-- a text of what is declared is one of what is made of it
pub one_made : {A B : Type 0} (Text : A → List ℕ → Type 0) (Made : B → List ℕ → Type 0) (make : A → B)
    (result : Result (Vec ℕ) Stop) (due : Result A Answer)
    → ((value : A) (text : List ℕ) → Text value text → Made (make value) text) → GivesOne Text result due
    → GivesOne Made result (due >>= λ value. Ok (make value))
one_made Text Made make (Ok text) due made h =
    (make h.0, ap (λ d. d >>= λ value. Ok (make value)) h.1, made h.0 text.items h.2)
one_made Text Made make (Err stop) due made h = stops_all stop due (λ value. Ok (make value)) h
