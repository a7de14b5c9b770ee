use Rattle.std.specs.Prelude.{◌≡◌, ℕ, List, [], ◌∷◌, unwrap_or, Some, None, Ok, Err}
use Rattle.std.specs.Option.{option_map}
use Rattle.ats_streams.specs.Stream.{DeclaredStream, with_class}
use Rattle.ats_network.specs.Network.{DeclaredNetwork}
use Rattle.ats_network.specs.Pushes.{with_stream}
use Rattle.ats_tally.specs.declared.reason.Reason.{Reason}
use Rattle.ats_requests.specs.Admission.{admit_fault, admit_lowest, after_lowest, entry_fault, lowest_of}
use Rattle.ats_requests.specs.Admission.{sum_with, withdraw_fault}
use Rattle.ats_requests.specs.Requests.{after, answer, first_class_of, lowest_answer}
use Rattle.ats_requests.specs.declared.answer.Answer.TheVariants.{Admitted, Refused, Withdrawn}
use Rattle.ats_requests.specs.declared.denied.Denied.{Denied}
use Rattle.ats_requests.specs.declared.denied.Denied.TheVariants.{NoClass}
use Rattle.ats_requests.specs.declared.request.Request.TheVariants.{Admit, Lowest, Withdraw}

-- what is asked for is refused for its fault, where it has one; else a stream is admitted with its class at its first
-- port and its sum, and one of a name is withdrawn; and a stream that asks for its lowest class is admitted with the
-- class and the sum that are found for it, or refused for why none are
pub record AnswersAreReckoned : Type 0 where
  pub admit : (network : DeclaredNetwork) (s : DeclaredStream) → answer network (Admit s)
      ≡ unwrap_or (option_map Refused (admit_fault network s)) (Admitted (first_class_of s) (sum_with network s))
  pub withdraw : (network : DeclaredNetwork) (name : List ℕ) → answer network (Withdraw name)
      ≡ unwrap_or (option_map Refused (withdraw_fault network name)) Withdrawn
  pub lowest : (network : DeclaredNetwork) (s : DeclaredStream) → answer network (Lowest s)
      ≡ lowest_answer (admit_lowest network s)
  pub given : (class sum : ℕ) → lowest_answer (Ok (class, sum)) ≡ Admitted class sum
  pub refused : (why : Denied) → lowest_answer (Err why) ≡ Refused why

-- a stream that asks for its lowest class is refused for what stands against it with any; else it has the first of the
-- classes 1 to 7 that is found, its sum is that with this class, and so the network has it last; where none is found,
-- it is refused for the reason with each; and where it is refused, the network is left as it was
pub record LowestIsReckoned : Type 0 where
  pub fault : (network : DeclaredNetwork) (s : DeclaredStream) (why : Denied) → entry_fault network s ≡ Some why
      → admit_lowest network s ≡ Err why
  pub found : (network : DeclaredNetwork) (s : DeclaredStream) (class : ℕ) → entry_fault network s ≡ None
      → lowest_of network s (1 ∷ 2 ∷ 3 ∷ 4 ∷ 5 ∷ 6 ∷ 7 ∷ []) ≡ Ok class
      → admit_lowest network s ≡ Ok (class, sum_with network (with_class s class))
  pub none_found : (network : DeclaredNetwork) (s : DeclaredStream) (reasons : List Reason)
      → entry_fault network s ≡ None
      → lowest_of network s (1 ∷ 2 ∷ 3 ∷ 4 ∷ 5 ∷ 6 ∷ 7 ∷ []) ≡ Err reasons
      → admit_lowest network s ≡ Err (NoClass reasons)
  pub left : (network : DeclaredNetwork) (s : DeclaredStream) → after network (Lowest s) ≡ after_lowest network s
  pub left_found : (network : DeclaredNetwork) (s : DeclaredStream) (class sum : ℕ)
      → admit_lowest network s ≡ Ok (class, sum) → after_lowest network s ≡ with_stream network (with_class s class)
  pub left_refused : (network : DeclaredNetwork) (s : DeclaredStream) (why : Denied)
      → admit_lowest network s ≡ Err why → after_lowest network s ≡ network

pub record RequestsAreReckoned : Type 0 where
  pub answers : AnswersAreReckoned
  pub lowest : LowestIsReckoned
