use Rattle.std.specs.Prelude.{◌≡◌, ℕ, ◌⊎◌, List, Ok, IsErr}
use Rattle.ats_network.specs.Network.{DeclaredNetwork, IsNetwork}
use Rattle.ats_certificate.specs.Certificate.{Holds}
use Rattle.ats_certificate.specs.declared.row.Row.{Row}
use Rattle.ats_certificate_file.specs.Text.{certificate_text}
use Rattle.ats_tally.specs.declared.reason.Reason.{Reason}
use Rattle.ats_bound.specs.First.{IsFirstReason}
use Rattle.ats_bound.specs.Least.{least_certificate}
use Rattle.ats_soundness_law.specs.Runs.{Runs, ats_runs}
use Rattle.ats_soundness_law.specs.Sound.{IsSound, IsSoundBy}
use Rattle.ats_checker.specs.First.{IsFirst}
use Rattle.ats_checker.specs.InTime.{FramesAreInTime, FramesAreInTimeBy}
use Rattle.ats_checker.specs.declared.refusal.Refusal.{Refusal}
use Rattle.ats_verdict_text.specs.Text.{accepted_text, reason_text, refusal_text, refused_text}
use Rattle.ats_command_input.specs.Input.{network_in, rows_in}
use Rattle.ats_command_due.specs.Due.{bound_answer, check_answer}
use Rattle.ats_command_input.specs.declared.status.Status.{Status}
use Rattle.ats_command_input.specs.declared.status.Status.TheVariants.{Done, Input, Refused}

-- a file of these bytes declares this network, and the text writes its least certificate, which holds and is sound, and
-- by which frames are in time
pub record IsBounded (net bytes text : List ℕ) (network : DeclaredNetwork) : Type 0 where
  pub declared : network_in net bytes ≡ Ok network
  pub rules : IsNetwork network
  pub holds : Holds network (least_certificate network)
  pub sound : IsSound network (least_certificate network)
  pub in_time : FramesAreInTime network (least_certificate network)
  pub written : text ≡ certificate_text network.topology (least_certificate network)

-- it declares this network, for which no certificate holds, and the text gives the first reason against it
pub record HasNone (net bytes text : List ℕ) (network : DeclaredNetwork) (reason : Reason) : Type 0 where
  pub declared : network_in net bytes ≡ Ok network
  pub rules : IsNetwork network
  pub first : IsFirstReason network reason
  pub none_holds : (rows : List Row) → ¬ Holds network rows
  pub written : text ≡ refused_text (reason_text network.topology reason)

-- what an answer to `bound NET` says of the bytes of the file, by its text and status; four statuses never come
abbrev pub BoundSays : List ℕ → List ℕ → List ℕ → Status → Type 0
BoundSays net bytes text Done = (network : DeclaredNetwork) × IsBounded net bytes text network
BoundSays net bytes text Input = IsErr (network_in net bytes)
BoundSays net bytes text Refused =
    (network : DeclaredNetwork) × (reason : Reason) × HasNone net bytes text network reason
BoundSays net bytes text status = ⊥

-- so for each file word and all bytes
abbrev pub BoundMeans : Type 0
BoundMeans = (net bytes : List ℕ) → BoundSays net bytes (bound_answer net bytes).text (bound_answer net bytes).status

-- two files of these bytes declare this network and these rows, which hold for it and are sound in these runs, where
-- talkers keep what is asked of them; by them frames are in time, and the text gives their bounds and sums
pub record IsAcceptedBy (runs : Runs) (net certificate net_bytes certificate_bytes text : List ℕ)
    (network : DeclaredNetwork) (rows : List Row) : Type 0 where
  pub network_declared : network_in net net_bytes ≡ Ok network
  pub rows_declared : rows_in network.topology certificate certificate_bytes ≡ Ok rows
  pub rules : IsNetwork network
  pub holds : Holds network rows
  pub sound : IsSoundBy runs network rows
  pub in_time : FramesAreInTimeBy runs network rows
  pub written : text ≡ accepted_text network rows

-- and the runs are those of Asynchronous Traffic Shaping, where talkers keep their buckets
abbrev pub IsAccepted : List ℕ → List ℕ → List ℕ → List ℕ → List ℕ → DeclaredNetwork → List Row → Type 0
IsAccepted net certificate net_bytes certificate_bytes text network rows =
    IsAcceptedBy ats_runs net certificate net_bytes certificate_bytes text network rows

-- they declare this network and these rows, which do not hold for it, and the text gives the first refusal of them
pub record IsRefused (net certificate net_bytes certificate_bytes text : List ℕ) (network : DeclaredNetwork)
    (rows : List Row) (refusal : Refusal) : Type 0 where
  pub network_declared : network_in net net_bytes ≡ Ok network
  pub rows_declared : rows_in network.topology certificate certificate_bytes ≡ Ok rows
  pub rules : IsNetwork network
  pub first : IsFirst network rows refusal
  pub fails : ¬ Holds network rows
  pub written : text ≡ refused_text (refusal_text network.topology refusal)

-- the first declares this network, and the second no rows for its ports
pub record HasNoRows (net certificate net_bytes certificate_bytes : List ℕ) (network : DeclaredNetwork) : Type 0 where
  pub network_declared : network_in net net_bytes ≡ Ok network
  pub no_rows : IsErr (rows_in network.topology certificate certificate_bytes)

-- what an answer to `check NET CERT` says of the bytes of both files, by its text and status; the same four never come
abbrev pub CheckSays : List ℕ → List ℕ → List ℕ → List ℕ → List ℕ → Status → Type 0
CheckSays net certificate net_bytes certificate_bytes text Done =
    (network : DeclaredNetwork) × (rows : List Row)
    × IsAccepted net certificate net_bytes certificate_bytes text network rows
CheckSays net certificate net_bytes certificate_bytes text Input =
    IsErr (network_in net net_bytes)
    ⊎ ((network : DeclaredNetwork) × HasNoRows net certificate net_bytes certificate_bytes network)
CheckSays net certificate net_bytes certificate_bytes text Refused =
    (network : DeclaredNetwork) × (rows : List Row) × (refusal : Refusal)
    × IsRefused net certificate net_bytes certificate_bytes text network rows refusal
CheckSays net certificate net_bytes certificate_bytes text status = ⊥

-- so for all file words and bytes
abbrev pub CheckMeans : Type 0
CheckMeans = (net certificate net_bytes certificate_bytes : List ℕ)
    → CheckSays net certificate net_bytes certificate_bytes
    (check_answer net certificate net_bytes certificate_bytes).text
    (check_answer net certificate net_bytes certificate_bytes).status
