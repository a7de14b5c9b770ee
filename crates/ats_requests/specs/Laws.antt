use Rattle.std.specs.Prelude.{◌≡◌, ℕ, ◌+◌, ◌<◌, ◌≤◌, List, length, slice_index_or, All, None, Ok, Err}
use Rattle.std.specs.Option.{option_map}
use Rattle.ats_streams.specs.Stream.{DeclaredStream, IsClass, with_class}
use Rattle.ats_network.specs.Network.{DeclaredNetwork, IsNetwork}
use Rattle.ats_network.specs.Pushes.{with_stream, stream_push_fault}
use Rattle.ats_tally.specs.declared.reason.Reason.{Reason}
use Rattle.ats_admission_law.specs.Reason.{reason_of}
use Rattle.ats_admission_law.specs.Near.{reason_judged}
use Rattle.ats_requests.specs.Admission.{entry_fault, reason_with, admit, admit_lowest}
use Rattle.ats_requests.specs.Entry.{by_fault}
use Rattle.ats_requests.specs.Requests.{MayEnter, MayAsk, after, after_all}
use Rattle.ats_requests.specs.declared.denied.Denied.TheVariants.{NameTaken, Limit, Because, NoClass}
use Rattle.ats_requests.specs.declared.request.Request.{Request}

-- a network for which a certificate holds
pub record IsCertified (network : DeclaredNetwork) : Type 0 where
  pub rules : IsNetwork network
  pub free : reason_of network ≡ None

-- so it stays after a request, with the same topology and the same greatest number of ports of a route
pub record StaysCertified (old new : DeclaredNetwork) : Type 0 where
  pub topology : new.topology ≡ old.topology
  pub most_ports : new.most_ports ≡ old.most_ports
  pub certified : IsCertified new

abbrev pub RequestKeeps : Type 0
RequestKeeps =
    (network : DeclaredNetwork) (request : Request) → IsCertified network → MayAsk network request
    → StaysCertified network (after network request)

-- and after any requests
abbrev pub RequestsKeep : Type 0
RequestsKeep =
    (network : DeclaredNetwork) (requests : List Request) → IsCertified network
    → All (MayAsk network) requests → StaysCertified network (after_all network requests)

-- a stream with this class at each port is refused, for some reason against the network with it
pub record IsDeniedWith (network : DeclaredNetwork) (stream : DeclaredStream) (class : ℕ) : Type 0 where
  pub reason : Reason
  pub refused : admit network (with_class stream class) ≡ Err (Because reason)

-- this class is the first that is accepted, with this sum: each lower one is refused
pub record IsFirstAccepted (network : DeclaredNetwork) (stream : DeclaredStream) (class sum : ℕ) : Type 0 where
  pub is_class : IsClass class
  pub accepted : admit network (with_class stream class) ≡ Ok sum
  pub lower : (c : ℕ) → 1 ≤ c → c < class → IsDeniedWith network stream c

abbrev pub LowestIsFirst : Type 0
LowestIsFirst =
    (network : DeclaredNetwork) (stream : DeclaredStream) (class sum : ℕ)
    → admit_lowest network stream ≡ Ok (class, sum) → IsFirstAccepted network stream class sum

-- there is a reason for each class from 1 to 7, with which a stream is refused
pub record AreReasons (network : DeclaredNetwork) (stream : DeclaredStream) (reasons : List Reason) : Type 0 where
  pub seven : length reasons ≡ 7
  pub each : (class : ℕ) (d : Reason) → class < 7
      → admit network (with_class stream (class + 1)) ≡ Err (Because (slice_index_or reasons class d))

abbrev pub NoClassHasReasons : Type 0
NoClassHasReasons =
    (network : DeclaredNetwork) (stream : DeclaredStream) (reasons : List Reason)
    → admit_lowest network stream ≡ Err (NoClass reasons) → AreReasons network stream reasons

-- whether a stream is admitted to a network for which a certificate holds is judged along its ports alone
abbrev pub AdmitIsJudged : Type 0
AdmitIsJudged =
    (network : DeclaredNetwork) (stream : DeclaredStream) → IsCertified network → MayEnter network stream
    → entry_fault network stream ≡ None
    → reason_with network stream ≡ reason_judged (with_stream network stream) stream

-- what stands against the entry of a stream without an identity is why it can't be added to the network, so its
-- identity is never taken
abbrev pub EntryIsPush : Type 0
EntryIsPush =
    (network : DeclaredNetwork) (stream : DeclaredStream) → stream.identity ≡ None
    → entry_fault network stream ≡ option_map (by_fault NameTaken NameTaken Limit) (stream_push_fault network stream)
