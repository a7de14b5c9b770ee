use Rattle.std.specs.Prelude.{◌≡◌, ◌↔◌, ◌⊎◌, ℕ, ◌+◌, ◌<◌, ◌≤◌, List, [], ◌∷◌, ◌++◌, length, replicate, Contains}
use Rattle.std.specs.Prelude.{Some, Ok, IsErr, slice_get}
use Rattle.ats_streams.specs.Stream.{DeclaredStream}
use Rattle.ats_network.specs.Network.{DeclaredNetwork, IsNetwork, names_of, ports_together, senders_of}
use Rattle.ats_network.specs.Rates.{HasRates}
use Rattle.ats_network.specs.Tables.{stream_names}
use Rattle.ats_certificate.specs.Certificate.{Holds, bound_along}
use Rattle.ats_certificate.specs.declared.row.Row.{Row}
use Rattle.ats_certificate_file.specs.Text.{certificate_text}
use Rattle.ats_tally.specs.declared.reason.Reason.{Reason}
use Rattle.ats_bound.specs.First.{IsFirstReason}
use Rattle.ats_bound.specs.Least.{least_certificate}
use Rattle.ats_soundness_law.specs.Sound.{IsSound}
use Rattle.ats_checker.specs.InTime.{FramesAreInTime}
use Rattle.ats_requests.specs.declared.answer.Answer.TheVariants.{Admitted, Withdrawn, Refused}
use Rattle.ats_requests.specs.declared.denied.Denied.TheVariants.{NameTaken, NameUnknown, Limit, Because, NoClass}
use Rattle.ats_requests.specs.declared.request.Request.TheVariants.{Admit, Lowest, Withdraw}
use Rattle.ats_verdict_text.specs.Text.{reason_text, refused_text}
use Rattle.ats_command_input.specs.Input.{network_in}
use Rattle.ats_command_input.specs.declared.status.Status.TheVariants as status
use Rattle.ats_command_law.specs.Answered.{AnswerTells}
use Rattle.ats_command_law.specs.Meaning.{BoundSays}

-- What an answer to each kind of request says of the network before it and of the one after it, and an answer to
-- `bound` of the bytes of its file, in the words below those of their definitions; and which answers say nothing that
-- can be, so that they never come.

-- a stream with this class at each of its ports
abbrev pub of_class : DeclaredStream → ℕ → DeclaredStream
of_class stream class = record stream { classes = replicate (length stream.ports) class }

-- a network with this stream behind its streams
abbrev pub and_then : DeclaredNetwork → DeclaredStream → DeclaredNetwork
and_then network stream = record network { streams = network.streams ++ stream ∷ [] }

-- the new network has the same topology, streams and flows as the old one, routes as long at most, and this stream
-- behind the streams, whose least bounds there are together this sum
pub record StandsLast (old new : DeclaredNetwork) (stream : DeclaredStream) (sum : ℕ) : Type 0 where
  pub topology : new.topology ≡ old.topology
  pub most_ports : new.most_ports ≡ old.most_ports
  pub streams : new.streams ≡ old.streams ++ stream ∷ []
  pub flows : new.flows ≡ old.flows
  pub along : sum ≡ bound_along (least_certificate new) stream

-- with this stream behind its streams a network is one, against which this is the first reason
pub record IsReasonAgainst (network : DeclaredNetwork) (stream : DeclaredStream) (reason : Reason) : Type 0 where
  pub rules : IsNetwork (and_then network stream)
  pub first : IsFirstReason (and_then network stream) reason

-- no sender of a network has a stream's name, and there are 4,096 streams, or with this one they would have over 65,536
-- ports together, or a rate or a burst of it at one of its ports is over what a scheduler may have
pub record IsPastLimit (network : DeclaredNetwork) (stream : DeclaredStream) : Type 0 where
  pub new_name : ¬ Contains (names_of (senders_of network)) stream.name
  pub over : (4096 ≤ length network.streams) ⊎ (65536 < ports_together network.streams + length stream.ports)
      ⊎ (¬ HasRates network.topology stream)

-- to a request to admit a stream with its class
pub record AdmitIsMeant : Type 0 where
  pub admitted : (old new : DeclaredNetwork) (stream : DeclaredStream) (class sum : ℕ)
      → AnswerTells old new (Admit stream) (Admitted class sum)
      → (stream.classes ≡ replicate (length stream.ports) class) × StandsLast old new stream sum
  pub taken : (old new : DeclaredNetwork) (stream : DeclaredStream)
      → AnswerTells old new (Admit stream) (Refused NameTaken)
      → (new ≡ old) × Contains (names_of (senders_of old)) stream.name
  pub full : (old new : DeclaredNetwork) (stream : DeclaredStream) → AnswerTells old new (Admit stream) (Refused Limit)
      → (new ≡ old) × IsPastLimit old stream
  pub because : (old new : DeclaredNetwork) (stream : DeclaredStream) (reason : Reason)
      → AnswerTells old new (Admit stream) (Refused (Because reason))
      → (new ≡ old) × IsReasonAgainst old stream reason
  pub not_withdrawn : (old new : DeclaredNetwork) (stream : DeclaredStream)
      → ¬ AnswerTells old new (Admit stream) Withdrawn
  pub not_unknown : (old new : DeclaredNetwork) (stream : DeclaredStream)
      → ¬ AnswerTells old new (Admit stream) (Refused NameUnknown)
  pub not_each : (old new : DeclaredNetwork) (stream : DeclaredStream) (reasons : List Reason)
      → ¬ AnswerTells old new (Admit stream) (Refused (NoClass reasons))

-- to a request to admit one with the lowest class: a class from 1 to 7, and a reason against each lower one; and where
-- none will do, a reason against each of the seven
pub record LowestIsMeant : Type 0 where
  pub admitted : (old new : DeclaredNetwork) (stream : DeclaredStream) (class sum : ℕ)
      → AnswerTells old new (Lowest stream) (Admitted class sum)
      → (1 ≤ class) × (class ≤ 7) × StandsLast old new (of_class stream class) sum
      × ((lower : ℕ) → 1 ≤ lower → lower < class
      → (reason : Reason) × IsReasonAgainst old (of_class stream lower) reason)
  pub taken : (old new : DeclaredNetwork) (stream : DeclaredStream)
      → AnswerTells old new (Lowest stream) (Refused NameTaken)
      → (new ≡ old) × Contains (names_of (senders_of old)) stream.name
  pub full : (old new : DeclaredNetwork) (stream : DeclaredStream) → AnswerTells old new (Lowest stream) (Refused Limit)
      → (new ≡ old) × IsPastLimit old stream
  pub no_class : (old new : DeclaredNetwork) (stream : DeclaredStream) (reasons : List Reason)
      → AnswerTells old new (Lowest stream) (Refused (NoClass reasons))
      → (new ≡ old) × (length reasons ≡ 7)
      × ((n : ℕ) → n < 7
      → (reason : Reason) × (slice_get reasons n ≡ Some reason)
      × IsReasonAgainst old (of_class stream (n + 1)) reason)
  pub not_withdrawn : (old new : DeclaredNetwork) (stream : DeclaredStream)
      → ¬ AnswerTells old new (Lowest stream) Withdrawn
  pub not_unknown : (old new : DeclaredNetwork) (stream : DeclaredStream)
      → ¬ AnswerTells old new (Lowest stream) (Refused NameUnknown)
  pub not_one : (old new : DeclaredNetwork) (stream : DeclaredStream) (reason : Reason)
      → ¬ AnswerTells old new (Lowest stream) (Refused (Because reason))

-- a stream of this name stood between others, which are there still, as are topology and flows, and how long routes may
-- be
pub record IsTakenOut (old new : DeclaredNetwork) (name : List ℕ) : Type 0 where
  pub gone : DeclaredStream
  pub before : List DeclaredStream
  pub behind : List DeclaredStream
  pub named : gone.name ≡ name
  pub were : old.streams ≡ before ++ gone ∷ behind
  pub are : new.streams ≡ before ++ behind
  pub topology : new.topology ≡ old.topology
  pub most_ports : new.most_ports ≡ old.most_ports
  pub flows : new.flows ≡ old.flows

-- to a request to withdraw the stream of a name
pub record WithdrawIsMeant : Type 0 where
  pub withdrawn : (old new : DeclaredNetwork) (name : List ℕ) → AnswerTells old new (Withdraw name) Withdrawn
      → IsTakenOut old new name
  pub unknown : (old new : DeclaredNetwork) (name : List ℕ)
      → AnswerTells old new (Withdraw name) (Refused NameUnknown)
      → (new ≡ old) × (¬ Contains (stream_names old.streams) name)
  pub not_admitted : (old new : DeclaredNetwork) (name : List ℕ) (class sum : ℕ)
      → ¬ AnswerTells old new (Withdraw name) (Admitted class sum)
  pub not_taken : (old new : DeclaredNetwork) (name : List ℕ)
      → ¬ AnswerTells old new (Withdraw name) (Refused NameTaken)
  pub not_full : (old new : DeclaredNetwork) (name : List ℕ)
      → ¬ AnswerTells old new (Withdraw name) (Refused Limit)
  pub not_one : (old new : DeclaredNetwork) (name : List ℕ) (reason : Reason)
      → ¬ AnswerTells old new (Withdraw name) (Refused (Because reason))
  pub not_each : (old new : DeclaredNetwork) (name : List ℕ) (reasons : List Reason)
      → ¬ AnswerTells old new (Withdraw name) (Refused (NoClass reasons))

-- the text writes the least certificate of this network, which a file of these bytes declares; it holds, is sound, and
-- by it frames are in time
pub record IsLeastPrinted (net bytes text : List ℕ) (network : DeclaredNetwork) : Type 0 where
  pub declares : network_in net bytes ≡ Ok network
  pub is_network : IsNetwork network
  pub least_holds : Holds network (least_certificate network)
  pub is_sound : IsSound network (least_certificate network)
  pub are_in_time : FramesAreInTime network (least_certificate network)
  pub is_text : text ≡ certificate_text network.topology (least_certificate network)

-- it gives the first reason against this network, which they declare, and for which no certificate holds
pub record IsReasonPrinted (net bytes text : List ℕ) (network : DeclaredNetwork) (reason : Reason) : Type 0 where
  pub declares : network_in net bytes ≡ Ok network
  pub is_network : IsNetwork network
  pub is_first : IsFirstReason network reason
  pub none : (rows : List Row) → ¬ Holds network rows
  pub is_text : text ≡ refused_text (reason_text network.topology reason)

-- an answer to `bound`, by its status
pub record BoundIsMeant : Type 0 where
  pub done : (net bytes text : List ℕ)
      → BoundSays net bytes text status.Done ↔ ((network : DeclaredNetwork) × IsLeastPrinted net bytes text network)
  pub input : (net bytes text : List ℕ) → BoundSays net bytes text status.Input ↔ IsErr (network_in net bytes)
  pub refused : (net bytes text : List ℕ)
      → BoundSays net bytes text status.Refused
      ↔ ((network : DeclaredNetwork) × (reason : Reason) × IsReasonPrinted net bytes text network reason)
  pub not_words : (net bytes text : List ℕ) → ¬ BoundSays net bytes text status.Words
  pub not_read : (net bytes text : List ℕ) → ¬ BoundSays net bytes text status.ReadFailed
  pub not_written : (net bytes text : List ℕ) → ¬ BoundSays net bytes text status.WriteFailed
  pub not_short : (net bytes text : List ℕ) → ¬ BoundSays net bytes text status.NoMemory

-- of all of these
pub record RepliesAreMeant : Type 0 where
  pub admit : AdmitIsMeant
  pub lowest : LowestIsMeant
  pub withdraw : WithdrawIsMeant
  pub bound : BoundIsMeant
