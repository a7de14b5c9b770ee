use Rattle.std.proofs.Common.{◌≡◌, ◌∙◌, ℕ, List, Option, Some, Result, Ok, Err, refl, sym, ap, subst}
use Rattle.std.specs.Prelude.{IfOk, IsErrAnd, IsErrOf}
use Rattle.ats_io.specs.Reads.{Read}
use Rattle.ats_num.specs.Failure as reading
use Rattle.ats_num.specs.Failure.{◌>>=◌}
use Rattle.ats_num.specs.declared.failure.Failure.{Failure}
use Rattle.ats_num.specs.declared.failure.Failure.TheVariants as failure
use Rattle.ats_command_input.specs.Answer.{Answer, input_answer}
use Rattle.ats_command_input.specs.Input.{bytes_in, declared_in}
use Rattle.ats_command_input.specs.Outcome.{Gives, IsStopOf, PassesOn, ReadsFile}
use Rattle.ats_command_input.specs.declared.outcome.Stop.{Stop}
use Rattle.ats_command_input.specs.declared.outcome.Stop.TheVariants.{Input, Refused, ReadFailed, NoMemory}

-- what stops a step stops what goes on from it
pub stops_all : {A B : Type 0} (stop : Stop) (due : Result A Answer) (next : A → Result B Answer) → IsStopOf stop due
    → IsStopOf stop (due >>= next)
stops_all (Input text) due next h = ap (λ d. d >>= next) h
stops_all (Refused text) due next h = ap (λ d. d >>= next) h
stops_all ReadFailed due next h = tt
stops_all NoMemory due next h = tt

-- what a step gives goes on
pub goes_on : {X A B : Type 0} (seen : X → B) (result : Result X Stop) (due : Result A Answer) (value : A) (next : A
    → Result B Answer) → due ≡ Ok value → Gives seen result (next value) → Gives seen result (due >>= next)
goes_on seen result due value next gives rest = subst (λ d. Gives seen result (d >>= next)) (sym gives) rest

-- an error that is handed on is the same
pub err_is : {X : Type 0} (result : Result X Stop) (stop : Stop) → IsErrAnd result (λ e. e ≡ stop) → result ≡ Err stop
err_is (Ok x) stop h = absurd h
err_is (Err e) stop h = ap Err h

err_moved : (X Y : Type 0) (stop other : Stop) → (let one : Result X Stop = Err stop in one ≡ Err other)
    → (let moved : Result Y Stop = Err stop in moved ≡ Err other)
err_moved X Y stop other h = cc

-- what stopped the read of a file stops what goes on from it
pub reads_stopped : {S X Y : Type 0} {told : S → List ℕ → Option (List ℕ)} {faults : S → List ℕ → ℕ}
    {reads : S → List Read} {name : List ℕ} {old new : S} (stop : Stop) (result : Result Y Stop)
    → (let first : Result X Stop = Err stop in ReadsFile told faults reads name old new first)
    → IsErrAnd result (λ e. e ≡ stop) → ReadsFile told faults reads name old new result
reads_stopped {X = X} {Y = Y} stop result first is = let same : result ≡ Err stop = err_is result stop is in
    record {
      failed = λ h. first.failed (err_moved Y X stop ReadFailed (sym same ∙ h));
      calm = λ h. first.calm (λ e. h (same ∙ err_moved X Y stop ReadFailed e));
      continues = first.continues;
      in_turn = first.in_turn;
    }

-- what stopped a step, if not a read that failed, is none further on
pub not_failed : {X Y : Type 0} (stop : Stop) (result : Result Y Stop)
    → (let first : Result X Stop = Err stop in ¬ IsErrOf first ReadFailed) → IsErrAnd result (λ e. e ≡ stop)
    → ¬ IsErrOf result ReadFailed
not_failed {X} {Y} stop result first is =
    λ h. first (err_moved Y X stop ReadFailed (sym (err_is result stop is) ∙ h))

-- what the bytes of a file declare, once they were read
pub declares : {X A F : Type 0} (seen : X → A) (result : Result X Stop) (most : ℕ) (file bytes whole text : List ℕ)
    (words : F → List ℕ) (reading : List ℕ → Result A F)
    → bytes_in most file bytes ≡ Ok whole → text ≡ whole → Gives seen result (declared_in file words (reading text))
    → Gives seen result (bytes_in most file bytes >>= λ t. declared_in file words (reading t))
declares seen result most file bytes whole text words reading was_read same gives =
    goes_on seen result (bytes_in most file bytes) whole (λ t. declared_in file words (reading t)) was_read
    (subst (λ (t : List ℕ). Gives seen result (declared_in file words (reading t))) same gives)

-- a value that was declared keeps what each one keeps that is due
pub declared_keeps : {A F : Type 0} (P : A → Type 0) (result : Result A Stop) (file : List ℕ) (words : F → List ℕ)
    (due : Result A F)
    → Gives (λ (value : A). value) result (declared_in file words due) → ((value : A) → due ≡ Ok value → P value)
    → IfOk result P
declared_keeps P (Err stop) file words due h keeps = tt
declared_keeps P (Ok value) file words (Err fault) h keeps = cc
declared_keeps P (Ok value) file words (Ok other) h keeps = keeps value (let same : other ≡ value = cc in ap Ok same)

-- a stop stands for an answer in place of any value
stop_is : (X A : Type 0) (stop : Stop) (answer : Answer) → (let due : Result X Answer = Err answer in IsStopOf stop due)
    → (let due : Result A Answer = Err answer in IsStopOf stop due)
stop_is X A (Input text) answer h = cc
stop_is X A (Refused text) answer h = cc
stop_is X A ReadFailed answer h = tt
stop_is X A NoMemory answer h = tt

no_stop : {X A : Type 0} (stop : Stop) (value : X) (other : A)
    → (let due : Result X Answer = Ok value in IsStopOf stop due)
    → (let due : Result A Answer = Ok other in IsStopOf stop due)
no_stop (Input text) value other h = cc
no_stop (Refused text) value other h = cc
no_stop ReadFailed value other h = tt
no_stop NoMemory value other h = tt

same_value : {X A : Type 0} (seen : X → A) (result : Result X Stop) (value : X) → Gives (λ (x : X). x) result (Ok value)
    → Gives seen result (Ok (seen value))
same_value seen (Ok x) value h = let same : value ≡ x = cc in ap (λ v. Ok (seen v)) same
same_value seen (Err stop) value h = no_stop stop value (seen value) h

same_fault : {X A : Type 0} (seen : X → A) (result : Result X Stop) (answer : Answer)
    → Gives (λ (x : X). x) result (Err answer) → Gives seen result (Err answer)
same_fault seen (Ok x) answer h = cc
same_fault {X} {A} seen (Err stop) answer h = stop_is X A stop answer h

-- what was read is passed on where its value is seen as another, too
pub passes_seen : {X A F : Type 0} (seen : X → A) (shown : F → Option (List ℕ)) (file : List ℕ)
    (read : Result X (Failure F)) (result : Result X Stop) (words : F → List ℕ) (due : Result A F)
    → PassesOn shown file read result → (read ≡ Err failure.NoMemory → result ≡ Err NoMemory)
    → ((fault : F) → shown fault ≡ Some (words fault)) → reading.GivesSeen seen read due
    → Gives seen result (declared_in file words due)
passes_seen seen shown file (Ok value) result words due passes spent tells gives =
    subst (λ d. Gives seen result (declared_in file words d)) (sym gives)
    (same_value seen result value (passes words (Ok value) tells refl))
passes_seen seen shown file (Err (failure.Fault fault)) result words due passes spent tells gives =
    subst (λ d. Gives seen result (declared_in file words d)) (sym gives)
    (same_fault seen result (input_answer file (words fault)) (passes words (Err fault) tells refl))
passes_seen {X} {A} seen shown file (Err failure.NoMemory) result words due passes spent tells gives =
    subst (λ (r : Result X Stop). Gives seen r (declared_in file words due)) (sym (spent refl)) tt

-- what holds of a value that was read holds of the value that is passed on
pub read_keeps : {X F : Type 0} (P : X → Type 0) (read : Result X (Failure F)) (result : Result X Stop)
    → IfOk result (λ (value : X). read ≡ Ok value) → IfOk read P → IfOk result P
read_keeps P read (Err stop) same h = tt
read_keeps P read (Ok value) same h = subst (λ r. IfOk r P) same h
