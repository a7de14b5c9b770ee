use Rattle.std.specs.Prelude.{◌≡◌, ℕ, List, [], ◌∷◌, length, Option, Some, None, Result, Ok, Err}
use Rattle.std.specs.List.{remove}
use Rattle.ats_streams.specs.Stream.{IsClass}
use Rattle.ats_network.specs.Edits.{with_class_at}
use Rattle.ats_network.specs.Network.{DeclaredNetwork}
use Rattle.ats_network.specs.Tables.{stream_names}
use Rattle.ats_certificate.specs.Used.{stream_classes}
use Rattle.ats_tally.specs.declared.reason.Reason.{Reason}
use Rattle.ats_bound.specs.Reason.{reason_of}
use Rattle.ats_admission_shares.specs.PortShares.{stream_paths}
use Rattle.ats_admission_state.specs.Judged.{sum_at}
use Rattle.ats_requests.specs.Admission.{first_class}
use Rattle.ats_requests.specs.declared.denied.Denied.{Denied}
use Rattle.ats_requests.specs.declared.denied.Denied.TheVariants.{NoClass}

-- the first of these classes with which the stream of this number brings no reason against the network, or the reason
-- that comes with each
abbrev pub lowest_at : DeclaredNetwork → ℕ → List ℕ → Result ℕ (List Reason)
lowest_at network n [] = Err []
lowest_at network n (class ∷ classes) =
    first_class class (reason_of (with_class_at network n class)) (lowest_at network n classes)

-- why no class is given, if none is
abbrev pub no_class : Result ℕ (List Reason) → Option Denied
no_class (Ok class) = None
no_class (Err reasons) = Some (NoClass reasons)

-- the stream of this number is given a class, with the sum of its least bounds
pub record IsGiven (network : DeclaredNetwork) (n class sum : ℕ) : Type 0 where
  pub lowest : lowest_at network n stream_classes ≡ Ok class
  pub is_class : IsClass class
  pub free : reason_of (with_class_at network n class) ≡ None
  pub sum_is : sum ≡ sum_at (with_class_at network n class) n

-- two networks are the same but for the classes of the stream with this number
pub record AreSameBut (n : ℕ) (old new : DeclaredNetwork) : Type 0 where
  pub topology : new.topology ≡ old.topology
  pub most_ports : new.most_ports ≡ old.most_ports
  pub flows : new.flows ≡ old.flows
  pub many : length new.streams ≡ length old.streams
  pub names : stream_names new.streams ≡ stream_names old.streams
  pub paths : stream_paths new ≡ stream_paths old
  pub others : remove new.streams n ≡ remove old.streams n
  pub classed : (class : ℕ) → with_class_at new n class ≡ with_class_at old n class
