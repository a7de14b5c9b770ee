use Rattle.std.specs.Prelude.{◌≡◌, ℕ, List, [], ◌∷◌, Some, None, Ok, Err, if◌then◌else◌, is_some}
use Rattle.std.specs.Prelude.{slice_index_or}
use Rattle.std.specs.Option.{option_map, option_or}
use Rattle.ats_streams.specs.Stream.{DeclaredStream, with_class}
use Rattle.ats_network.specs.Edits.{stream_named, without_named}
use Rattle.ats_network.specs.Network.{DeclaredNetwork}
use Rattle.ats_network.specs.Pushes.{is_beyond, is_name_taken, with_stream}
use Rattle.ats_bound.specs.Least.{least_certificate}
use Rattle.ats_bound.specs.Reason.{reason_of}
use Rattle.ats_certificate.specs.Certificate.{bound_along}
use Rattle.ats_tally.specs.declared.reason.Reason.{Reason}
use Rattle.ats_requests.specs.Admission.{admit_fault, class_reason, entry_fault}
use Rattle.ats_requests.specs.Admission.{lowest_of, reason_with, sum_with, withdraw_fault}
use Rattle.ats_requests.specs.Requests.{after, after_all, answer, answers, first_class_of}
use Rattle.ats_requests.specs.declared.denied.Denied.TheVariants.{Because, Limit, NameTaken, NameUnknown}
use Rattle.ats_requests.specs.declared.request.Request.{Request}
use Rattle.ats_requests.specs.declared.request.Request.TheVariants.{Admit, Withdraw}

-- the first request is asked of the network as it was declared, and each later one of what the one before it left
pub record RequestsGoInTurn : Type 0 where
  pub none : (network : DeclaredNetwork) → answers network [] ≡ []
  pub more : (network : DeclaredNetwork) (r : Request) (rs : List Request) → answers network (r ∷ rs)
      ≡ answer network r ∷ answers (after network r) rs
  pub left : (network : DeclaredNetwork) → after_all network [] ≡ network
  pub left_by : (network : DeclaredNetwork) (r : Request) (rs : List Request) → after_all network (r ∷ rs)
      ≡ after_all (after network r) rs
  pub withdrawn : (network : DeclaredNetwork) (name : List ℕ) → after network (Withdraw name)
      ≡ without_named network name
  pub admitted : (network : DeclaredNetwork) (s : DeclaredStream) → after network (Admit s)
      ≡ (if is_some (admit_fault network s) then network else with_stream network s)

-- a stream is denied for its name, then for a limit, and then for the first reason against the network with it; its
-- sum is that of its least bounds there
pub record EntriesArePlain : Type 0 where
  pub entry : (network : DeclaredNetwork) (s : DeclaredStream) → entry_fault network s
      ≡ (if is_name_taken network s.name then Some NameTaken
      else if is_beyond network s then Some Limit else None)
  pub fault : (network : DeclaredNetwork) (s : DeclaredStream) → admit_fault network s
      ≡ option_or (entry_fault network s) (option_map Because (reason_with network s))
  pub reason : (network : DeclaredNetwork) (s : DeclaredStream) → reason_with network s
      ≡ reason_of (with_stream network s)
  pub sum : (network : DeclaredNetwork) (s : DeclaredStream) → sum_with network s
      ≡ bound_along (least_certificate (with_stream network s)) s
  pub first_class : (s : DeclaredStream) → first_class_of s ≡ slice_index_or s.classes 0 0
  pub unknown : (network : DeclaredNetwork) (name : List ℕ) → withdraw_fault network name
      ≡ (if is_some (stream_named network.streams name) then None else Some NameUnknown)

-- of the lowest class that a stream can have each class is asked in its turn, at each port of the stream
pub record ClassesArePlain : Type 0 where
  pub reason : (network : DeclaredNetwork) (s : DeclaredStream) (class : ℕ) → class_reason network s class
      ≡ reason_with network (with_class s class)
  pub none : (network : DeclaredNetwork) (s : DeclaredStream) → lowest_of network s [] ≡ Err []
  pub taken : (network : DeclaredNetwork) (s : DeclaredStream) (class : ℕ) (classes : List ℕ)
      → class_reason network s class ≡ None → lowest_of network s (class ∷ classes) ≡ Ok class
  pub passed : (network : DeclaredNetwork) (s : DeclaredStream) (class other : ℕ) (classes : List ℕ) (why : Reason)
      → class_reason network s class ≡ Some why → lowest_of network s classes ≡ Ok other
      → lowest_of network s (class ∷ classes) ≡ Ok other
  pub denied : (network : DeclaredNetwork) (s : DeclaredStream) (class : ℕ) (classes : List ℕ) (why : Reason)
      (reasons : List Reason) → class_reason network s class ≡ Some why → lowest_of network s classes ≡ Err reasons
      → lowest_of network s (class ∷ classes) ≡ Err (why ∷ reasons)

pub record RequestsArePlain : Type 0 where
  pub turns : RequestsGoInTurn
  pub entries : EntriesArePlain
  pub classes : ClassesArePlain
