use Rattle.std.specs.Prelude.{◌≡◌, ℕ, ◌<◌, ◌⊎◌, List, length, map, Ok, IsErr}
use Rattle.ats_num.specs.Wire.{bits_of}
use Rattle.ats_bucket.specs.Conforming.{Conforms}
use Rattle.ats_group_law.specs.Regulator.{passed_by}
use Rattle.ats_network.specs.Network.{DeclaredNetwork, IsNetwork}
use Rattle.ats_certificate.specs.Certificate.{Holds}
use Rattle.ats_certificate.specs.declared.row.Row.{Row}
use Rattle.ats_certificate_file.specs.Text.{certificate_text}
use Rattle.ats_tally.specs.declared.reason.Reason.{Reason}
use Rattle.ats_bound.specs.First.{IsFirstReason}
use Rattle.ats_bound.specs.Least.{least_certificate}
use Rattle.ats_checker.specs.First.{IsFirst}
use Rattle.ats_checker.specs.InTime.{FramesAreInTimeBy}
use Rattle.ats_checker.specs.declared.refusal.Refusal.{Refusal}
use Rattle.ats_soundness_law.specs.Sound.{IsSoundBy}
use Rattle.ats_shape.specs.Shape.{DeclaredShape}
use Rattle.ats_shape.specs.Text.{report_on}
use Rattle.ats_shape.specs.Verdicts.{declared_in, offer_of}
use Rattle.ats_lrq.specs.Judge.{lrq_judge, spacing_rule}
use Rattle.ats_lrq.specs.Narrow.{narrowed}
use Rattle.ats_lrq_shape.specs.Verdicts.{lrq_verdicts_on}
use Rattle.ats_verdict_text.specs.Text.{reason_text, refusal_text, refused_text}
use Rattle.ats_command_input.specs.Input.{network_in, rows_in, shape_in}
use Rattle.ats_command_input.specs.declared.status.Status.{Status}
use Rattle.ats_command_input.specs.declared.status.Status.TheVariants.{Done, Input, Refused}
use Rattle.ats_command_due.specs.Due.{lrq_bound_answer, lrq_check_answer, lrq_shape_answer}
use Rattle.ats_command_due.specs.Soundness.{AreSoundBy, lrq_runs}
use Rattle.ats_command_law.specs.Meaning.{HasNoRows}

-- what the regulator lets through of each stream of a shape conforms to that stream's rate and the wire bits of its
-- longest frame
abbrev pub EachConforms : DeclaredShape → Type 0
EachConforms shape = (stream : ℕ) → stream < length shape.streams
    → (let declared = declared_in shape.streams stream in
    Conforms declared.rate (bits_of declared.max_octets)
    (passed_by lrq_judge (declared_in shape.streams) shape.residence_ns (map offer_of shape.frames) stream))

-- a file of these bytes declares this shape, and the text gives the verdicts of one length-rate-quotient regulator, by
-- which each stream conforms
pub record IsLrqShaped (file bytes text : List ℕ) (shape : DeclaredShape) : Type 0 where
  pub declared : shape_in file bytes ≡ Ok shape
  pub conforms : EachConforms shape
  pub written : text ≡ report_on shape (lrq_verdicts_on shape)

-- what an answer to `lrq shape FILE` says of the bytes of the file, by its text and status; five statuses never come
abbrev pub LrqShapeSays : List ℕ → List ℕ → List ℕ → Status → Type 0
LrqShapeSays file bytes text Done = (shape : DeclaredShape) × IsLrqShaped file bytes text shape
LrqShapeSays file bytes text Input = IsErr (shape_in file bytes)
LrqShapeSays file bytes text status = ⊥

-- so for each file word and all bytes
abbrev pub LrqShapeMeans : Type 0
LrqShapeMeans = (file bytes : List ℕ)
    → LrqShapeSays file bytes (lrq_shape_answer file bytes).text (lrq_shape_answer file bytes).status

-- a file of these bytes declares this network, and the text writes the least certificate with narrowed bursts, which
-- holds with them; and it is sound for length-rate-quotient regulators and spaced talkers, whose frames are in time by
-- it, in the runs of the network as it is declared
pub record IsLrqBounded (net bytes text : List ℕ) (network : DeclaredNetwork) : Type 0 where
  pub declared : network_in net bytes ≡ Ok network
  pub rules : IsNetwork network
  pub holds : Holds (narrowed network) (least_certificate (narrowed network))
  pub sound : IsSoundBy lrq_runs network (least_certificate (narrowed network))
  pub in_time : FramesAreInTimeBy lrq_runs network (least_certificate (narrowed network))
  pub written : text ≡ certificate_text network.topology (least_certificate (narrowed network))

-- it declares this network, for which no certificate holds with narrowed bursts, and the text gives the first reason
-- against that
pub record HasNoneNarrowed (net bytes text : List ℕ) (network : DeclaredNetwork) (reason : Reason) : Type 0 where
  pub declared : network_in net bytes ≡ Ok network
  pub rules : IsNetwork network
  pub first : IsFirstReason (narrowed network) reason
  pub none_holds : (rows : List Row) → ¬ Holds (narrowed network) rows
  pub written : text ≡ refused_text (reason_text network.topology reason)

-- what an answer to `lrq bound NET` says of the bytes of the file, by its text and status; four statuses never come
abbrev pub LrqBoundSays : List ℕ → List ℕ → List ℕ → Status → Type 0
LrqBoundSays net bytes text Done = (network : DeclaredNetwork) × IsLrqBounded net bytes text network
LrqBoundSays net bytes text Input = IsErr (network_in net bytes)
LrqBoundSays net bytes text Refused =
    (network : DeclaredNetwork) × (reason : Reason) × HasNoneNarrowed net bytes text network reason
LrqBoundSays net bytes text status = ⊥

-- so for each file word and all bytes
abbrev pub LrqBoundMeans : Type 0
LrqBoundMeans = (net bytes : List ℕ)
    → LrqBoundSays net bytes (lrq_bound_answer net bytes).text (lrq_bound_answer net bytes).status

-- two files of these bytes declare this network and these rows, which hold with narrowed bursts. They are sound for
-- length-rate-quotient regulators and spaced talkers, whose frames are in time by them, in the runs of the network as
-- it is declared; and the text gives their bounds and sums
pub record IsLrqAccepted (net certificate net_bytes certificate_bytes text : List ℕ) (network : DeclaredNetwork)
    (rows : List Row) : Type 0 where
  pub rules : IsNetwork network
  pub holds : Holds (narrowed network) rows
  pub sound : AreSoundBy lrq_runs net certificate net_bytes certificate_bytes text network rows

-- they declare this network and these rows, which do not hold with narrowed bursts, and the text gives the first
-- refusal of them
pub record IsLrqRefused (net certificate net_bytes certificate_bytes text : List ℕ) (network : DeclaredNetwork)
    (rows : List Row) (refusal : Refusal) : Type 0 where
  pub network_declared : network_in net net_bytes ≡ Ok network
  pub rows_declared : rows_in network.topology certificate certificate_bytes ≡ Ok rows
  pub rules : IsNetwork network
  pub first : IsFirst (narrowed network) rows refusal
  pub fails : ¬ Holds (narrowed network) rows
  pub written : text ≡ refused_text (refusal_text network.topology refusal)

-- what an answer to `lrq check NET CERT` says of the bytes of both files, by its text and status; the same four never
-- come
abbrev pub LrqCheckSays : List ℕ → List ℕ → List ℕ → List ℕ → List ℕ → Status → Type 0
LrqCheckSays net certificate net_bytes certificate_bytes text Done =
    (network : DeclaredNetwork) × (rows : List Row)
    × IsLrqAccepted net certificate net_bytes certificate_bytes text network rows
LrqCheckSays net certificate net_bytes certificate_bytes text Input =
    IsErr (network_in net net_bytes)
    ⊎ ((network : DeclaredNetwork) × HasNoRows net certificate net_bytes certificate_bytes network)
LrqCheckSays net certificate net_bytes certificate_bytes text Refused =
    (network : DeclaredNetwork) × (rows : List Row) × (refusal : Refusal)
    × IsLrqRefused net certificate net_bytes certificate_bytes text network rows refusal
LrqCheckSays net certificate net_bytes certificate_bytes text status = ⊥

-- so for all file words and bytes
abbrev pub LrqCheckMeans : Type 0
LrqCheckMeans = (net certificate net_bytes certificate_bytes : List ℕ)
    → LrqCheckSays net certificate net_bytes certificate_bytes
    (lrq_check_answer net certificate net_bytes certificate_bytes).text
    (lrq_check_answer net certificate net_bytes certificate_bytes).status
