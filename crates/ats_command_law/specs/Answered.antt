use Rattle.std.specs.Prelude.{◌≡◌, ◌≢◌, ◌⊎◌, ℕ, ◌+◌, ◌<◌, ◌≤◌, List, length, slice_index_or, All, Contains}
use Rattle.ats_streams.specs.Stream.{DeclaredStream, IsClass, with_class}
use Rattle.ats_network.specs.Network.{DeclaredNetwork, IsNetwork, names_of, ports_together, senders_of}
use Rattle.ats_network.specs.Pushes.{with_stream}
use Rattle.ats_network.specs.Rates.{HasRates}
use Rattle.ats_network.specs.Tables.{stream_names}
use Rattle.ats_network.specs.declared.network.TheConstants.{MAX_PORTS_TOGETHER, MAX_STREAMS}
use Rattle.ats_certificate.specs.Certificate.{bound_along}
use Rattle.ats_tally.specs.declared.reason.Reason.{Reason}
use Rattle.ats_bound.specs.First.{IsFirstReason}
use Rattle.ats_bound.specs.Least.{least_certificate}
use Rattle.ats_admission_law.specs.Less.{IsLessBy}
use Rattle.ats_requests.specs.declared.answer.Answer.{Answer}
use Rattle.ats_requests.specs.declared.answer.Answer.TheVariants.{Admitted, Withdrawn, Refused}
use Rattle.ats_requests.specs.declared.denied.Denied.{Denied}
use Rattle.ats_requests.specs.declared.denied.Denied.TheVariants.{NameTaken, NameUnknown, Limit, Because, NoClass}
use Rattle.ats_requests.specs.declared.request.Request.{Request}
use Rattle.ats_requests.specs.declared.request.Request.TheVariants.{Admit, Lowest, Withdraw}

-- a network, and the first reason against it
pub record HasFirstReason (network : DeclaredNetwork) (reason : Reason) : Type 0 where
  pub rules : IsNetwork network
  pub first : IsFirstReason network reason

-- a network with a stream added last, which has this class at each of its ports, and the first reason against it
abbrev pub HasReasonWith : DeclaredNetwork → DeclaredStream → ℕ → Reason → Type 0
HasReasonWith network stream class reason = HasFirstReason (with_stream network (with_class stream class)) reason

-- a stream came in, with this class at each of its ports, beside all that was there; this is the sum of its least
-- bounds in the network that came of it
pub record CameIn (old new : DeclaredNetwork) (stream : DeclaredStream) (class sum : ℕ) : Type 0 where
  pub beside : new ≡ with_stream old (with_class stream class)
  pub sum_is : sum ≡ bound_along (least_certificate new) (with_class stream class)

-- it is the stream that was asked for, with the class that it was asked for with
pub record IsAdmitted (old new : DeclaredNetwork) (stream : DeclaredStream) (class sum : ℕ) : Type 0 where
  pub asked : stream ≡ with_class stream class
  pub came_in : CameIn old new stream class sum

-- it is the stream that was asked for, with this class, and there is a first reason against the network with it in each
-- lower class
pub record IsLowestAdmitted (old new : DeclaredNetwork) (stream : DeclaredStream) (class sum : ℕ) : Type 0 where
  pub is_class : IsClass class
  pub came_in : CameIn old new stream class sum
  pub lower : (c : ℕ) → 1 ≤ c → c < class → (reason : Reason) × HasReasonWith old stream c reason

-- the stream of a name is gone, and it alone
pub record IsGone (old new : DeclaredNetwork) (name : List ℕ) : Type 0 where
  pub stream : DeclaredStream
  pub named : stream.name ≡ name
  pub less : IsLessBy old new stream

-- a sender of the network has a name; none has
abbrev pub IsNameTaken : DeclaredNetwork → List ℕ → Type 0
IsNameTaken network name = Contains (names_of (senders_of network)) name

abbrev pub IsNameFree : DeclaredNetwork → List ℕ → Type 0
IsNameFree network name = All (λ other. other ≢ name) (names_of (senders_of network))

-- the name of a stream is free, and as many streams are there as may be, or with its ports they have more than they may
-- have together, or a rate or a burst of it at one of its ports is over the limits of a scheduler
pub record IsOverLimit (network : DeclaredNetwork) (stream : DeclaredStream) : Type 0 where
  pub free : IsNameFree network stream.name
  pub over : (MAX_STREAMS ≤ length network.streams)
      ⊎ (MAX_PORTS_TOGETHER < ports_together network.streams + length stream.ports)
      ⊎ (¬ HasRates network.topology stream)

-- no stream of the network has a name
abbrev pub HasNoStream : DeclaredNetwork → List ℕ → Type 0
HasNoStream network name = All (λ other. other ≢ name) (stream_names network.streams)

-- for each class from 1 to 7, the first reason against the network with a stream in it
pub record AreFirstReasons (network : DeclaredNetwork) (stream : DeclaredStream) (reasons : List Reason) : Type 0 where
  pub seven : length reasons ≡ 7
  pub each : (n : ℕ) (d : Reason) → n < 7 → HasReasonWith network stream (n + 1) (slice_index_or reasons n d)

-- what a denial says, by what was asked for: a stream with its class, a stream with the lowest class, or that the
-- stream of a name is taken out
abbrev pub AdmitDenied : DeclaredNetwork → DeclaredStream → Denied → Type 0
AdmitDenied network stream NameTaken = IsNameTaken network stream.name
AdmitDenied network stream Limit = IsOverLimit network stream
AdmitDenied network stream (Because reason) = HasFirstReason (with_stream network stream) reason
AdmitDenied network stream NameUnknown = ⊥
AdmitDenied network stream (NoClass reasons) = ⊥

abbrev pub LowestDenied : DeclaredNetwork → DeclaredStream → Denied → Type 0
LowestDenied network stream NameTaken = IsNameTaken network stream.name
LowestDenied network stream Limit = IsOverLimit network stream
LowestDenied network stream (NoClass reasons) = AreFirstReasons network stream reasons
LowestDenied network stream NameUnknown = ⊥
LowestDenied network stream (Because reason) = ⊥

abbrev pub WithdrawDenied : DeclaredNetwork → List ℕ → Denied → Type 0
WithdrawDenied network name NameUnknown = HasNoStream network name
WithdrawDenied network name NameTaken = ⊥
WithdrawDenied network name Limit = ⊥
WithdrawDenied network name (Because reason) = ⊥
WithdrawDenied network name (NoClass reasons) = ⊥

-- nothing has changed, for this cause
pub record IsUnchanged (old new : DeclaredNetwork) (Cause : Type 0) : Type 0 where
  pub same : new ≡ old
  pub cause : Cause

-- what the answer to each kind of request says of the network before it and of the one after it
abbrev pub AdmitTells : DeclaredNetwork → DeclaredNetwork → DeclaredStream → Answer → Type 0
AdmitTells old new stream (Admitted class sum) = IsAdmitted old new stream class sum
AdmitTells old new stream Withdrawn = ⊥
AdmitTells old new stream (Refused denied) = IsUnchanged old new (AdmitDenied old stream denied)

abbrev pub LowestTells : DeclaredNetwork → DeclaredNetwork → DeclaredStream → Answer → Type 0
LowestTells old new stream (Admitted class sum) = IsLowestAdmitted old new stream class sum
LowestTells old new stream Withdrawn = ⊥
LowestTells old new stream (Refused denied) = IsUnchanged old new (LowestDenied old stream denied)

abbrev pub WithdrawTells : DeclaredNetwork → DeclaredNetwork → List ℕ → Answer → Type 0
WithdrawTells old new name (Admitted class sum) = ⊥
WithdrawTells old new name Withdrawn = IsGone old new name
WithdrawTells old new name (Refused denied) = IsUnchanged old new (WithdrawDenied old name denied)

abbrev pub AnswerTells : DeclaredNetwork → DeclaredNetwork → Request → Answer → Type 0
AnswerTells old new (Admit stream) answer = AdmitTells old new stream answer
AnswerTells old new (Lowest stream) answer = LowestTells old new stream answer
AnswerTells old new (Withdraw name) answer = WithdrawTells old new name answer
