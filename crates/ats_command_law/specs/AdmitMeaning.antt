use Rattle.std.specs.Prelude.{◌≡◌, ℕ, ◌+◌, ◌⊎◌, List, length, take, Some, Ok, IsErr, slice_get}
use Rattle.ats_network.specs.Network.{DeclaredNetwork, IsNetwork}
use Rattle.ats_certificate.specs.Certificate.{Holds}
use Rattle.ats_certificate.specs.declared.row.Row.{Row}
use Rattle.ats_tally.specs.declared.reason.Reason.{Reason}
use Rattle.ats_bound.specs.First.{IsFirstReason}
use Rattle.ats_bound.specs.Least.{least_certificate}
use Rattle.ats_soundness_law.specs.Sound.{IsSound}
use Rattle.ats_checker.specs.InTime.{FramesAreInTime}
use Rattle.ats_requests.specs.Requests.{after_all, answers}
use Rattle.ats_requests.specs.declared.answer.Answer.{Answer}
use Rattle.ats_requests.specs.declared.request.Request.{Request}
use Rattle.ats_verdict_text.specs.Text.{reason_text, refused_text}
use Rattle.ats_admission_text.specs.Text.{admission_text}
use Rattle.ats_command_input.specs.Input.{network_in, requests_in}
use Rattle.ats_command_due.specs.Due.{admit_answer}
use Rattle.ats_command_law.specs.Answered.{AnswerTells}
use Rattle.ats_command_input.specs.declared.status.Status.{Status}
use Rattle.ats_command_input.specs.declared.status.Status.TheVariants.{Done, Input, Refused}

-- the least certificate of a network holds and is sound, and by it frames are in time
pub record IsSoundlyBounded (network : DeclaredNetwork) : Type 0 where
  pub rules : IsNetwork network
  pub holds : Holds network (least_certificate network)
  pub sound : IsSound network (least_certificate network)
  pub in_time : FramesAreInTime network (least_certificate network)

-- the network after the first so many requests
abbrev pub network_after : DeclaredNetwork → List Request → ℕ → DeclaredNetwork
network_after network asked k = after_all network (take k asked)

-- each request gets an answer, and no more answers are given; each says what its request made of the network
pub record AreAnswers (network : DeclaredNetwork) (asked : List Request) : Type 0 where
  pub as_many : length (answers network asked) ≡ length asked
  pub each : (k : ℕ) (request : Request) (answer : Answer) → slice_get asked k ≡ Some request
      → slice_get (answers network asked) k ≡ Some answer
      → AnswerTells (network_after network asked k) (network_after network asked (k + 1)) request answer

-- two files of these bytes declare this network and make these requests; before and after each of them the least
-- certificate is sound; and the text gives the answers, each of which says what its request made of the network
pub record IsAdmission (net requests net_bytes requests_bytes text : List ℕ) (network : DeclaredNetwork)
    (asked : List Request) : Type 0 where
  pub network_declared : network_in net net_bytes ≡ Ok network
  pub requests_made : requests_in network requests requests_bytes ≡ Ok asked
  pub sound : (k : ℕ) → IsSoundlyBounded (network_after network asked k)
  pub answered : AreAnswers network asked
  pub written : text ≡ admission_text network asked

-- they declare this network and make these requests; no certificate holds for the network, and the text gives the first
-- reason against it
pub record IsUncertified (net requests net_bytes requests_bytes text : List ℕ) (network : DeclaredNetwork)
    (asked : List Request) (reason : Reason) : Type 0 where
  pub network_declared : network_in net net_bytes ≡ Ok network
  pub requests_made : requests_in network requests requests_bytes ≡ Ok asked
  pub rules : IsNetwork network
  pub first : IsFirstReason network reason
  pub none_holds : (rows : List Row) → ¬ Holds network rows
  pub written : text ≡ refused_text (reason_text network.topology reason)

-- the first declares this network, over which the second makes no requests
pub record HasNoRequests (net requests net_bytes requests_bytes : List ℕ) (network : DeclaredNetwork) : Type 0 where
  pub network_declared : network_in net net_bytes ≡ Ok network
  pub no_requests : IsErr (requests_in network requests requests_bytes)

-- what an answer to `admit NET REQUESTS` says of the bytes of both files, by its text and status; four statuses never
-- come
abbrev pub AdmitSays : List ℕ → List ℕ → List ℕ → List ℕ → List ℕ → Status → Type 0
AdmitSays net requests net_bytes requests_bytes text Done =
    (network : DeclaredNetwork) × (asked : List Request)
    × IsAdmission net requests net_bytes requests_bytes text network asked
AdmitSays net requests net_bytes requests_bytes text Input =
    IsErr (network_in net net_bytes)
    ⊎ ((network : DeclaredNetwork) × HasNoRequests net requests net_bytes requests_bytes network)
AdmitSays net requests net_bytes requests_bytes text Refused =
    (network : DeclaredNetwork) × (asked : List Request) × (reason : Reason)
    × IsUncertified net requests net_bytes requests_bytes text network asked reason
AdmitSays net requests net_bytes requests_bytes text status = ⊥

-- so for all file words and bytes
abbrev pub AdmitMeans : Type 0
AdmitMeans = (net requests net_bytes requests_bytes : List ℕ)
    → AdmitSays net requests net_bytes requests_bytes (admit_answer net requests net_bytes requests_bytes).text
    (admit_answer net requests net_bytes requests_bytes).status
