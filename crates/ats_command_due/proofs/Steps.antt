use Rattle.std.proofs.Common.{◌≡◌, ℕ, List, [], ◌∷◌, Option, Some, None, Result, Ok, Err, refl, sym, ap, subst, ◌∙◌}
use Rattle.std.specs.Prelude.{IsSome, IfSome, IfOk, IsErrAnd, IsErrOf, IsOk, unwrap_or}
use Rattle.std.specs.Global.{Vec}
use Rattle.ats_num.specs.Failure.{◌>>=◌}
use Rattle.ats_io.specs.Outside.{IfTold}
use Rattle.ats_io.specs.Reads.{Read, ReadsInTurn}
use Rattle.ats_io.proofs.Outside.{Continues-trans, Rose-since}
use Rattle.ats_io.proofs.Turns.{none_read, read_behind}
use Rattle.ats_command_input.specs.Answer.{Answer, settled}
use Rattle.ats_command_input.specs.Command.{Command, file_words}
use Rattle.ats_command_due.specs.Calls.{ReadsFiles}
use Rattle.ats_command_due.specs.Due.{Reaches, told_bytes}
use Rattle.ats_command_input.specs.Outcome.{Gives, IsStopOf, ReadsFile, answer_of}
use Rattle.ats_command_input.specs.declared.outcome.Stop.{Stop}
use Rattle.ats_command_input.specs.declared.outcome.Stop.TheVariants.{Input, Refused, ReadFailed, NoMemory}
use Rattle.ats_command_input.specs.declared.status.Status.TheVariants as status
use Rattle.ats_command_input.proofs.Steps.{stops_all, goes_on, err_is}

some_is : (o : Option (List ℕ)) → IsSome o → o ≡ Some (unwrap_or o [])
some_is None h = cc
some_is (Some bytes) h = refl

-- the bytes of a name that are told
pub told_is : (told : List ℕ → Option (List ℕ)) (name : List ℕ) → IsSome (told name)
    → told name ≡ Some (told_bytes told name)
told_is told name h = some_is (told name) h

-- what stops a command settles it
pub stop_settles : (stop : Stop) (due : Result (List ℕ) Answer) → IsStopOf stop due
    → IfSome (answer_of (Err stop)) (λ (answer : Answer). answer ≡ settled due)
stop_settles (Input text) due h = sym (ap settled h)
stop_settles (Refused text) due h = sym (ap settled h)
stop_settles ReadFailed due h = tt
stop_settles NoMemory due h = tt

-- so does its text
pub text_settles : (text : List ℕ) (due : Result (List ℕ) Answer) → due ≡ Ok text
    → record { status = status.Done; text = text } ≡ settled due
text_settles text due h = sym (ap settled h)

-- a step that stops a command settles it
pub step_settles : {A : Type 0} (result : Result (Vec ℕ) Stop) (stop : Stop) (due : Result A Answer)
    (next : A → Result (List ℕ) Answer)
    → result ≡ Err stop → IsStopOf stop due
    → IfSome (answer_of result) (λ (answer : Answer). answer ≡ settled (due >>= next))
step_settles result stop due next is stops =
    subst (λ (r : Result (Vec ℕ) Stop). IfSome (answer_of r) (λ (answer : Answer). answer ≡ settled (due >>= next)))
    (sym is) (stop_settles stop (due >>= next) (stops_all stop due next stops))

-- what a judgement gives settles a command
pub result_settles : (result : Result (Vec ℕ) Stop) (due : Result (List ℕ) Answer) → Gives
    (λ (text : Vec ℕ). text.items) result due → IfSome (answer_of result) (λ (answer : Answer). answer ≡ settled due)
result_settles (Ok text) due h = text_settles text.items due h
result_settles (Err stop) due h = stop_settles stop due h

-- where bytes are told under a name, what stops their reading settles the command
pub file_settles : {A : Type 0} (told : List ℕ → Option (List ℕ)) (file : List ℕ) (result : Result (Vec ℕ) Stop)
    (stop : Stop) (declared : List ℕ → Result A Answer) (next : A → Result (List ℕ) Answer)
    → IsErrAnd result (λ e. e ≡ stop) → IfTold (told file) (λ bytes. IsStopOf stop (declared bytes))
    → IsSome (told file)
    → IfSome (answer_of result) (λ (answer : Answer). answer ≡ settled (declared (told_bytes told file) >>= next))
file_settles told file result stop declared next is stops there =
    step_settles result stop (declared (told_bytes told file)) next (err_is result stop is)
    (stops (told_bytes told file) (told_is told file there))

-- and where they declare a value, what goes on from it does
pub file_goes_on : {A : Type 0} (told : List ℕ → Option (List ℕ)) (file : List ℕ) (result : Result (Vec ℕ) Stop)
    (value : A) (declared : List ℕ → Result A Answer) (next : A → Result (List ℕ) Answer)
    → IfTold (told file) (λ bytes. declared bytes ≡ Ok value) → IsSome (told file)
    → Gives (λ (text : Vec ℕ). text.items) result (next value)
    → IfSome (answer_of result) (λ (answer : Answer). answer ≡ settled (declared (told_bytes told file) >>= next))
file_goes_on told file result value declared next gives there rest =
    result_settles result (declared (told_bytes told file) >>= next)
    (goes_on (λ (text : Vec ℕ). text.items) result (declared (told_bytes told file)) value next
    (gives (told_bytes told file) (told_is told file there)) rest)

-- what holds of the text that a call gave
pub text_then : (result : Result (Vec ℕ) Stop) (P Q : List ℕ → Type 0) → IfOk result (λ (text : Vec ℕ). P text.items)
    → ((text : List ℕ) → P text → Q text) → IfOk result (λ (text : Vec ℕ). Q text.items)
text_then (Ok text) P Q h f = f text.items h
text_then (Err stop) P Q h f = tt

-- what is declared is no answer
pub declared_is_ok : {A : Type 0} (due : Result A Answer) (value : A) → due ≡ Ok value → IsOk due
declared_is_ok due value h = rw h refl

-- the files of a command were read in turn, where the first was read and the others were not
read_of : (command : Command) (file : List ℕ) (others : List (List ℕ)) (old new : List Read)
    → ReadsInTurn (file ∷ []) old new → file_words command ≡ file ∷ others → ReadsInTurn (file_words command) old new
read_of command file others old new one words =
    subst (λ (names : List (List ℕ)). ReadsInTurn names old new) (sym words)
    (read_behind (file ∷ []) others old new new one (none_read others new))

-- a command that comes to a file, and to no other, reads it
pub reads_one : {S X : Type 0} {told : S → List ℕ → Option (List ℕ)} {faults : S → List ℕ → ℕ}
    {reads : S → List Read} (command : Command) (file : List ℕ) (others : List (List ℕ)) {old new : S}
    {result : Result X Stop} → ReadsFile told faults reads file old new result
    → Reaches (told old) command file → file_words command ≡ file ∷ others
    → ReadsFiles told faults reads command old new result
reads_one {reads = reads} command file others {old = old} {new = new} one reaches words = record {
  failed = λ h. (file, reaches, one.failed h);
  calm = one.calm;
  continues = one.continues;
  in_turn = read_of command file others (reads old) (reads new) one.in_turn words;
}

-- a command that stops behind its first file, and not for a read that failed, read that one
pub reads_first : {S X Y : Type 0} {told : S → List ℕ → Option (List ℕ)} {faults : S → List ℕ → ℕ}
    {reads : S → List Read} (command : Command) (net : List ℕ) (others : List (List ℕ)) {old new : S} (value : X)
    (result : Result Y Stop) → ReadsFile told faults reads net old new (Ok value) → ¬ IsErrOf result ReadFailed
    → file_words command ≡ net ∷ others → ReadsFiles told faults reads command old new result
reads_first {reads = reads} command net others {old = old} {new = new} value result first read words = record {
  failed = λ h. absurd (read h);
  calm = λ h. first.calm (λ e. cc);
  continues = first.continues;
  in_turn = read_of command net others (reads old) (reads new) first.in_turn words;
}

-- a command that stops at its second file read both, and none behind it
pub reads_two : {S X Y : Type 0} (told : S → List ℕ → Option (List ℕ)) (faults : S → List ℕ → ℕ)
    (reads : S → List Read) (command : Command) (net file : List ℕ) (others : List (List ℕ)) (old middle new : S)
    (value : X) (result : Result Y Stop)
    → ReadsFile told faults reads net old middle (Ok value) → ReadsFile told faults reads file middle new result
    → Reaches (told old) command file → file_words command ≡ net ∷ file ∷ others
    → ReadsFiles told faults reads command old new result
reads_two told faults reads command net file others old middle new value result first second reaches words = record {
  failed = λ h. (file, reaches, Rose-since _ _ _ (first.continues.counts file) (second.failed h));
  calm = λ h. second.calm h ∙ first.calm (λ e. cc);
  continues = Continues-trans first.continues second.continues;
  in_turn = subst (λ (names : List (List ℕ)). ReadsInTurn names (reads old) (reads new)) (sym words)
      (read_behind (net ∷ []) (file ∷ others) (reads old) (reads middle) (reads new) first.in_turn
      (read_behind (file ∷ []) others (reads middle) (reads new) (reads new) second.in_turn
      (none_read others (reads new))));
}

-- a command that comes to a third file, once the two before it declared values, reads the three
pub reads_three : {S X Y Z : Type 0} (told : S → List ℕ → Option (List ℕ)) (faults : S → List ℕ → ℕ)
    (reads : S → List Read) (command : Command) (net file last : List ℕ) (old one two new : S) (value : X) (other : Y)
    (result : Result Z Stop)
    → ReadsFile told faults reads net old one (Ok value) → ReadsFile told faults reads file one two (Ok other)
    → ReadsFile told faults reads last two new result
    → Reaches (told old) command last → file_words command ≡ net ∷ file ∷ last ∷ []
    → ReadsFiles told faults reads command old new result
reads_three told faults reads command net file last old one two new value other result first second third reaches
    words = record {
      failed = λ h. (
        last,
        reaches,
        Rose-since _ _ _ ((Continues-trans first.continues second.continues).counts last) (third.failed h),
      );
      calm = λ h. third.calm h ∙ second.calm (λ e. cc) ∙ first.calm (λ e. cc);
      continues = Continues-trans first.continues (Continues-trans second.continues third.continues);
      in_turn = subst (λ (names : List (List ℕ)). ReadsInTurn names (reads old) (reads new)) (sym words)
          (read_behind (net ∷ []) (file ∷ last ∷ []) (reads old) (reads one) (reads new) first.in_turn
          (read_behind (file ∷ []) (last ∷ []) (reads one) (reads two) (reads new) second.in_turn third.in_turn));
    }

-- a command that comes to a second file, once the first declared a value, reads both
pub reads_both : {S X Y : Type 0} (told : S → List ℕ → Option (List ℕ)) (faults : S → List ℕ → ℕ)
    (reads : S → List Read) (command : Command) (net file : List ℕ) (old middle new : S) (value : X)
    (result : Result Y Stop)
    → ReadsFile told faults reads net old middle (Ok value) → ReadsFile told faults reads file middle new result
    → Reaches (told old) command file → file_words command ≡ net ∷ file ∷ []
    → ReadsFiles told faults reads command old new result
reads_both told faults reads command net file old middle new value result first second reaches words = record {
  failed = λ h. (file, reaches, Rose-since _ _ _ (first.continues.counts file) (second.failed h));
  calm = λ h. second.calm h ∙ first.calm (λ e. cc);
  continues = Continues-trans first.continues second.continues;
  in_turn = subst (λ (names : List (List ℕ)). ReadsInTurn names (reads old) (reads new)) (sym words)
      (read_behind (net ∷ []) (file ∷ []) (reads old) (reads middle) (reads new) first.in_turn second.in_turn);
}
