use Rattle.std.proofs.Common.{◌≡◌, ℕ, List, Option, Some, None, Result, Ok, Err, refl, ap, ◌∙◌}
use Rattle.std.specs.Prelude.{unwrap_or}
use Rattle.std.specs.Option.{option_map}
use Rattle.ats_num.specs.Failure.{unless}
use Rattle.ats_streams.specs.Stream.{DeclaredStream, with_class}
use Rattle.ats_network.specs.Network.{DeclaredNetwork}
use Rattle.ats_network.specs.Pushes.{with_stream}
use Rattle.ats_certificate.specs.Used.{stream_classes}
use Rattle.ats_tally.specs.declared.reason.Reason.{Reason}
use Rattle.ats_requests.specs.Admission.{added_given, admit_fault, class_given, lowest_class, lowest_of}
use Rattle.ats_requests.specs.Admission.{sum_given, sum_with, withdraw_fault}
use Rattle.ats_requests.specs.Requests.{admit_answer, first_class_of, withdraw_answer}
use Rattle.ats_requests.specs.declared.answer.Answer.TheVariants.{Admitted, Refused, Withdrawn}
use Rattle.ats_requests.specs.declared.denied.Denied.{Denied}
use Rattle.ats_plain_bound_law.specs.Requests.{AnswersAreReckoned, LowestIsReckoned, RequestsAreReckoned}

-- How a request is answered, and what it leaves.

admitted : (class sum : ℕ) (fault : Option Denied) → admit_answer class (unless (λ (d : Denied). d) fault sum)
    ≡ unwrap_or (option_map Refused fault) (Admitted class sum)
admitted class sum None = refl
admitted class sum (Some why) = refl

withdrawn : (fault : Option Denied) → withdraw_answer fault ≡ unwrap_or (option_map Refused fault) Withdrawn
withdrawn None = refl
withdrawn (Some why) = refl

answers : AnswersAreReckoned
answers = record {
  admit = λ network s. admitted (first_class_of s) (sum_with network s) (admit_fault network s);
  withdraw = λ network name. withdrawn (withdraw_fault network name);
  lowest = λ network s. refl;
  given = λ class sum. refl;
  refused = λ why. refl;
}

-- the class of a result, and the fault
abbrev class_in : Result (ℕ × ℕ) Denied → ℕ
class_in (Ok given) = given.0
class_in (Err why) = 0

left_found : (network : DeclaredNetwork) (s : DeclaredStream) (given : Result ℕ Denied) (class sum : ℕ)
    → sum_given network s given ≡ Ok (class, sum)
    → added_given network s given ≡ with_stream network (with_class s class)
left_found network s (Ok c) class sum is =
    ap (λ (n : ℕ). with_stream network (with_class s n)) (ap class_in is)
left_found network s (Err why) class sum is = absurd (let no : Err why ≡ Ok (class, sum) = is in cc)

left_refused : (network : DeclaredNetwork) (s : DeclaredStream) (given : Result ℕ Denied) (why : Denied)
    → sum_given network s given ≡ Err why → added_given network s given ≡ network
left_refused network s (Ok c) why is =
    absurd (let no : Ok (c, sum_with network (with_class s c)) ≡ Err why = is in cc)
left_refused network s (Err other) why is = refl

-- the answer, by what stands against any class and what is found
abbrev lowest_by : DeclaredNetwork → DeclaredStream → Option Denied → Result ℕ (List Reason) → Result (ℕ × ℕ) Denied
lowest_by network s fault lowest = sum_given network s (class_given fault lowest)

lowest : LowestIsReckoned
lowest = record {
  fault = λ network s why is.
      ap (λ (o : Option Denied). lowest_by network s o (lowest_of network s stream_classes)) is;
  found = λ network s class none is.
      ap (λ (o : Option Denied). lowest_by network s o (lowest_of network s stream_classes)) none
      ∙ ap (lowest_by network s None) is;
  none_found = λ network s reasons none is.
      ap (λ (o : Option Denied). lowest_by network s o (lowest_of network s stream_classes)) none
      ∙ ap (lowest_by network s None) is;
  left = λ network s. refl;
  left_found = λ network s class sum. left_found network s (lowest_class network s) class sum;
  left_refused = λ network s why. left_refused network s (lowest_class network s) why;
}

pub requests_are_reckoned : RequestsAreReckoned
requests_are_reckoned = record {
  answers = answers;
  lowest = lowest;
}
