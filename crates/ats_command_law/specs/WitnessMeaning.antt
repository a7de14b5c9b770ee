use Rattle.std.specs.Prelude.{◌≡◌, ℕ, ◌⊎◌, List, ◌++◌, codes, All, Ok, IsErr}
use Rattle.std.specs.List.{AllZip, range_with_len}
use Rattle.ats_network.specs.Network.{DeclaredNetwork, IsNetwork}
use Rattle.ats_network.specs.Senders.{sender_at}
use Rattle.ats_certificate.specs.Certificate.{Holds}
use Rattle.ats_conform.specs.Releases.{AllKeepBuckets}
use Rattle.ats_bound.specs.Least.{least_certificate}
use Rattle.ats_tally.specs.declared.reason.Reason.{Reason}
use Rattle.ats_trace.specs.Ways.{listener_count}
use Rattle.ats_witness.specs.Found.{FoundDelays, IsWithinBound}
use Rattle.ats_witness_law.specs.Laws.{CanHappen}
use Rattle.ats_command_input.specs.Answer.{Answer}
use Rattle.ats_command_input.specs.Input.{network_in}
use Rattle.ats_command_input.specs.Stream.{stream_in}
use Rattle.ats_command_due.specs.Due.{IsWitnessAnswer}
use Rattle.ats_command_due.specs.Witnessed.{IsWitnessOf}
use Rattle.ats_command_law.specs.Meaning.{HasNone}
use Rattle.ats_command_input.specs.declared.status.Status.{Status}
use Rattle.ats_command_input.specs.declared.status.Status.TheVariants.{Done, Input, Refused}

-- what is found of a stream for a listener can happen: each delay can, and none is above the sum of the least bounds
-- along the route there; and by the releases every node keeps its buckets
pub record IsShownFor (network : DeclaredNetwork) (stream listener : ℕ) (found : FoundDelays) : Type 0 where
  pub happen : All (CanHappen network stream listener) found.delays
  pub within : All (IsWithinBound network stream listener) found.delays
  pub keeps : AllKeepBuckets network found.releases

-- a file of these bytes declares this network, in which this stream has this name, and whose least certificate holds.
-- The text gives what is found of the stream for each of its listeners, and the sum of its least bounds along the route
-- to each; and what is found can happen
pub record IsShown (net name bytes text : List ℕ) (network : DeclaredNetwork) (stream : ℕ) (founds : List FoundDelays)
    : Type 0 where
  pub declared : network_in net bytes ≡ Ok network
  pub named : stream_in network.streams name ≡ Ok stream
  pub rules : IsNetwork network
  pub holds : Holds network (least_certificate network)
  pub of_stream : IsWitnessOf network stream text founds
  pub for_each : AllZip (IsShownFor network stream) (range_with_len 0 (listener_count (sender_at network stream)))
      founds

-- it declares this network, in which no stream has this name, and the text says so
pub record HasNoStream (net name bytes text : List ℕ) (network : DeclaredNetwork) : Type 0 where
  pub declared : network_in net bytes ≡ Ok network
  pub no_stream : IsErr (stream_in network.streams name)
  pub written : text ≡ codes "refused stream " ++ name ++ codes "\n"

-- it declares this network, in which this stream has this name, and for which no certificate holds, and the text gives
-- the first reason against it
pub record HasStreamAlone (net name bytes text : List ℕ) (network : DeclaredNetwork) (stream : ℕ) (reason : Reason)
    : Type 0 where
  pub named : stream_in network.streams name ≡ Ok stream
  pub none : HasNone net bytes text network reason

-- what an answer to `witness NET NAME` says of the bytes of the file, by its text and status; four statuses never come
abbrev pub WitnessSays : List ℕ → List ℕ → List ℕ → List ℕ → Status → Type 0
WitnessSays net name bytes text Done =
    (network : DeclaredNetwork) × (stream : ℕ) × (founds : List FoundDelays)
    × IsShown net name bytes text network stream founds
WitnessSays net name bytes text Refused =
    ((network : DeclaredNetwork) × HasNoStream net name bytes text network)
    ⊎ ((network : DeclaredNetwork) × (stream : ℕ) × (reason : Reason)
    × HasStreamAlone net name bytes text network stream reason)
WitnessSays net name bytes text Input = IsErr (network_in net bytes)
WitnessSays net name bytes text status = ⊥

-- so for all words and bytes, and each answer
abbrev pub WitnessMeans : Type 0
WitnessMeans = (net name bytes : List ℕ) (answer : Answer) → IsWitnessAnswer net name bytes answer
    → WitnessSays net name bytes answer.text answer.status
