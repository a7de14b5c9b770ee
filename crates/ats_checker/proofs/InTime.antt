-- By sound bounds, and a certificate that holds, each frame of a talker that keeps its rule arrives within its stream's
-- deadline.
use Rattle.std.proofs.Common.{◌≡◌, ℕ, ◌+◌, ◌*◌, ◌<◌, ◌≤◌, Some, List, [], subst, ap, ◌∙◌, arith}
use Rattle.std.specs.Prelude.{◌↔◌, All, slice_get}
use Rattle.std.proofs.lemmas.Option.{slice_get_within, get_or_from_slice_get}
use Rattle.ats_num.specs.declared.time.TheConstants.{PS_PER_NS}
use Rattle.ats_topology.specs.Topology.{IsStationAt}
use Rattle.ats_streams.specs.Stream.{DeclaredStream}
use Rattle.ats_network.specs.Sender.{Sender, stream_sender}
use Rattle.ats_network.specs.Network.{DeclaredNetwork}
use Rattle.ats_network.specs.Senders.{sender_at}
use Rattle.ats_bucket.specs.Conforming.{Frame}
use Rattle.ats_streams.specs.declared.traffic.Declared.{Declared}
use Rattle.ats_certificate.specs.Certificate.{IsInTime, bound_on}
use Rattle.ats_certificate.specs.declared.row.Row.{Row}
use Rattle.ats_trace.specs.Journey.{Travel}
use Rattle.ats_trace.specs.Run.{releases_of}
use Rattle.ats_trace.specs.Talker.{talker_of}
use Rattle.ats_trace.specs.Ways.{listener_count, route_to, way_to}
use Rattle.ats_trace.specs.declared.journey.Ending.{Ending}
use Rattle.ats_trace.specs.declared.journey.Ending.TheVariants.{Sink, Discard}
use Rattle.ats_port_law.proofs.Senders.{no_stream, stream_at}
use Rattle.ats_soundness_law.specs.Runs.{Runs, ats_runs, in_true_time}
use Rattle.ats_soundness_law.specs.Sound.{ArrivesBy, BeginAtStations, BridgesKeepIn, IsServedOn}
use Rattle.ats_soundness_law.proofs.Node.{bridges_keep}
use Rattle.ats_soundness_law.proofs.Streams.{stream_exists}
use Rattle.ats_soundness_law.proofs.TrueTime.{bridges_in_true_time, bridges_keep_in, certificate_is_sound}
use Rattle.ats_soundness_law.proofs.TrueTime.{kept_in_true_time, station_keeps}
use Rattle.ats_soundness_law.proofs.TrueTime.{IsLegalInTrueTime}
use Rattle.ats_soundness_law.proofs.TrueTime.{true_time_is_legal}
use Rattle.ats_checker.specs.InTime.{InTimeInTrueTime}
use Rattle.ats_checker.specs.InTime.{HoldingIsInTime, SoundIsInTime, SoundIsOnTime, StationsAreInTime}
use Rattle.ats_checker.specs.InTime.{StationsAreOnTime}

-- the stream with a number, as a sender
pub sender_of_stream : (network : DeclaredNetwork) (i : ℕ) (stream : DeclaredStream)
    → slice_get network.streams i ≡ Some stream → sender_at network i ≡ stream_sender stream
sender_of_stream network i stream named =
    stream_at network i (slice_get_within network.streams i stream named)
    ∙ ap stream_sender (get_or_from_slice_get network.streams i stream no_stream named)

-- what arrives by a time arrives by each later one
arrives_later : (early late : ℕ) (ending : Ending) → early ≤ late → ArrivesBy early ending → ArrivesBy late ending
arrives_later early late (Sink at) after by = omega (arith, after, by)
arrives_later early late Discard after by = by

-- a stream with a number is in time for each of its listeners, where each is
own_time : (network : DeclaredNetwork) (rows : List Row) (i : ℕ) (stream : DeclaredStream) (m : ℕ)
    → slice_get network.streams i ≡ Some stream → All (IsInTime rows) network.streams
    → m < listener_count (stream_sender stream)
    → bound_on rows stream (route_to (stream_sender stream) m) ≤ PS_PER_NS * stream.deadline_ns
own_time network rows i stream m named all within =
    subst (IsInTime rows) (get_or_from_slice_get network.streams i stream no_stream named)
    (all i no_stream (slice_get_within network.streams i stream named)) m [] within

pub sound_is_on_time : (runs : Runs) → SoundIsOnTime runs
sound_is_on_time runs network rows sound time run legal journey there stream named keeps m within bridges =
    let i : ℕ = journey.release.sender in
    let at : ℕ = journey.release.at.0 in
    let s : Sender = stream_sender stream in
    let Serves : Sender → Type 0 = λ (x : Sender). m < listener_count x
    → BridgesKeepIn runs network run legal (route_to x m)
    → IsServedOn rows x journey.release (route_to x m) (way_to x journey m) in
    let serves : Serves s = subst Serves (sender_of_stream network i stream named)
    (sound.served run legal journey there (slice_get_within network.streams i stream named) keeps m) in
    let served : IsServedOn rows s journey.release (route_to s m) (way_to s journey m) = serves within bridges in
    let ending : Ending = (way_to s journey m).ending in
    let along : ℕ = bound_on rows stream (route_to s m) in
    let kept = own_time network rows i stream m named time within in
    record {
      sum = served.arrives;
      deadline = arrives_later (at + along) (at + PS_PER_NS * stream.deadline_ns) ending (omega (arith, kept))
          served.arrives;
    }

pub sound_is_in_time : (rule : Declared → List Frame → Type 0) → SoundIsInTime rule
sound_is_in_time rule = record {
  by_rule = λ judge. sound_is_on_time (in_true_time judge rule);
  by_buckets = sound_is_on_time ats_runs;
}

-- where no bridge has frames of its own, and so each keeps what is asked of it, nothing is asked of them
on_time : (runs : Runs)
    → ((network : DeclaredNetwork) (run : List Travel) (legal : runs.legal network run) (path : List ℕ)
    → BeginAtStations network → BridgesKeepIn runs network run legal path)
    → ((network : DeclaredNetwork) (run : List Travel) (legal : runs.legal network run) (node : ℕ)
    → IsStationAt network.topology node
    → runs.keeps network run legal node ↔ runs.station_keeps network run node) → StationsAreOnTime runs
on_time runs kept read network rows stations = (
  λ in_time. λ run legal journey there stream named keeps m within.
      in_time run legal journey there stream named
      ((talker_reads run legal journey stream named).1 keeps) m within
      (kept network run legal (route_to (stream_sender stream) m) stations),
  λ in_time. λ run legal journey there stream named keeps m within bridges.
      in_time run legal journey there stream named
      ((talker_reads run legal journey stream named).0 keeps) m within,
)
  where
    talker_reads : (run : List Travel) (legal : runs.legal network run) (journey : Travel)
        (stream : DeclaredStream) → slice_get network.streams journey.release.sender ≡ Some stream
        → runs.keeps network run legal (talker_of network journey.release.sender)
        ↔ runs.station_keeps network run (talker_of network journey.release.sender)
    talker_reads run legal journey stream named =
        read network run legal (talker_of network journey.release.sender) (stations journey.release.sender
        (stream_exists network journey.release.sender
        (slice_get_within network.streams journey.release.sender stream named)))

pub stations_are_in_time : (rule : Declared → List Frame → Type 0) → StationsAreInTime rule
stations_are_in_time rule = record {
  by_rule = λ judge. on_time (in_true_time judge rule)
      (λ network run legal path stations. bridges_keep rule network (releases_of run) path stations)
      (λ network run legal node station. (λ keeps. keeps, λ keeps. keeps));
  by_buckets = on_time ats_runs bridges_keep_in station_keeps;
}

pub holding_is_in_time : HoldingIsInTime
holding_is_in_time network rows net holds =
    sound_is_on_time ats_runs network rows (certificate_is_sound network rows net holds) holds.deadlines

pub in_time_in_true_time : InTimeInTrueTime
in_time_in_true_time network rows net in_time run ideal journey there stream named keeps m within bridges =
    let made : IsLegalInTrueTime network run = true_time_is_legal network run net ideal in
    in_time run made.legal journey there stream named (kept_in_true_time network run made _ keeps) m within
    (bridges_in_true_time network run made (route_to (stream_sender stream) m) bridges)
