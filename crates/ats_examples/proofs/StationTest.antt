-- Tests of where the routes of a closed network begin: at stations, where nothing is asked of bridges; and at which
-- nodes none does, so that these are asked for nothing.
use Rattle.std.proofs.Common.{◌≡◌, ℕ, ◌<◌, Bool, true, List, get_or, length, subst, sym}
use Rattle.std.specs.Prelude.{not, ◌==◌}
use Rattle.ats_bucket.specs.Conforming.{Frame}
use Rattle.ats_certificate.specs.declared.row.Row.{Row}
use Rattle.ats_group.specs.Judge.{Judge, bucket_rule}
use Rattle.ats_topology.specs.Node.{is_station}
use Rattle.ats_topology.specs.Port.{port_at}
use Rattle.ats_topology.specs.Topology.{node_at}
use Rattle.ats_network.specs.Network.{DeclaredNetwork, IsNetwork, senders_of}
use Rattle.ats_streams.specs.declared.traffic.Declared.{Declared}
use Rattle.ats_trace.specs.Clocks.{IsLegal}
use Rattle.ats_trace.specs.Journey.{Travel}
use Rattle.ats_trace.specs.Run.{IsIdeal, releases_of}
use Rattle.ats_trace.specs.Talker.{talker_of, KeepsBuckets, KeepsBucketsBy, read_by}
use Rattle.ats_clock_run_law.proofs.Ideal.{stations_read_true_time}
use Rattle.ats_clock_run_law.proofs.TrueTime.{true_time_is_legal}
use Rattle.ats_trace.specs.declared.journey.Release.{Release}
use Rattle.ats_soundness_law.specs.Runs.{ats_runs, in_true_time}
use Rattle.ats_soundness_law.specs.Sound.{BeginAtStations, BridgesKeep, BridgesKeepIn, IsSound, IsSoundBy}
use Rattle.ats_soundness_law.specs.Sound.{IsSoundFromStations}
use Rattle.ats_soundness_law.specs.TrueTime.{KeepsBucketsIn}
use Rattle.ats_soundness_law.proofs.Node.{bridges_keep}
use Rattle.ats_soundness_law.proofs.TrueTime.{stations_promise_all}
use Rattle.ats_soundness_law.proofs.Streams.{stream_exists}
use Rattle.ats_examples.proofs.NetworkTest.{apart_by, is_station_at, station_by}
use Rattle.ats_examples.proofs.Tests.{each_below, below_by}

abbrev pub begin_at_stations : DeclaredNetwork → Bool
begin_at_stations network =
    each_below (λ i. is_station_at network.topology (talker_of network i)) (length (senders_of network))

pub begin_by : (network : DeclaredNetwork) → begin_at_stations network ≡ true → BeginAtStations network
begin_by network h i within =
    station_by network.topology (talker_of network i)
    (below_by (λ i. is_station_at network.topology (talker_of network i)) (length (senders_of network)) h i within)

-- then the bridges on each way keep each rule
pub bridges_by : (rule : Declared → List Frame → Type 0) (network : DeclaredNetwork) (releases : List Release)
    (path : List ℕ) → begin_at_stations network ≡ true → BridgesKeep rule network releases path
bridges_by rule network releases path h = bridges_keep rule network releases path (begin_by network h)

-- what sound bounds promise then
pub from_stations : (network : DeclaredNetwork) (rows : List Row) → begin_at_stations network ≡ true
    → IsSound network rows → IsSoundFromStations ats_runs network rows
from_stations network rows h = ((stations_promise_all bucket_rule).by_buckets network rows (begin_by network h)).0

-- and in runs by true time, for any groups
pub from_stations_by : (rule : Declared → List Frame → Type 0) (judge : Judge) (network : DeclaredNetwork)
    (rows : List Row) → begin_at_stations network ≡ true → IsSoundBy (in_true_time judge rule) network rows
    → IsSoundFromStations (in_true_time judge rule) network rows
from_stations_by rule judge network rows h =
    ((stations_promise_all rule).by_rule judge network rows (begin_by network h)).0

-- a run by true time is legal
pub legal_of : (network : DeclaredNetwork) (run : List Travel) → IsNetwork network → IsIdeal network run
    → IsLegal network run
legal_of network run is ideal = (true_time_is_legal network run is ideal).legal

-- a station that keeps its buckets in true time keeps them in a legal run
pub keeps_in : (network : DeclaredNetwork) (run : List Travel) (legal : IsLegal network run) (node : ℕ)
    → is_station (node_at network.topology.nodes node).kind ≡ true → KeepsBuckets network (releases_of run) node
    → KeepsBucketsIn network run legal node
keeps_in network run legal node station keeps =
    subst (λ (releases : List Release). KeepsBuckets network releases node)
    (sym (stations_read_true_time network run legal node (releases_of run) station)) keeps

-- and where all routes begin at stations, the bridges on each way keep theirs
pub bridges_in : (network : DeclaredNetwork) (run : List Travel) (legal : IsLegal network run) (path : List ℕ)
    → begin_at_stations network ≡ true → BridgesKeepIn ats_runs network run legal path
bridges_in network run legal path h k d within bridge =
    let node : ℕ = (port_at network.topology.ports (get_or path k d)).from in
    bridges_by bucket_rule network (read_by (legal.clocks node) (releases_of run)) path h k d within bridge

-- no route begins at this node
abbrev pub none_begins : DeclaredNetwork → ℕ → Bool
none_begins network node = each_below (λ i. not (talker_of network i == node)) (length (senders_of network))

-- then it keeps each rule
pub quiet_by : (rule : Declared → List Frame → Type 0) (network : DeclaredNetwork) (releases : List Release) (node : ℕ)
    → none_begins network node ≡ true → KeepsBucketsBy rule network releases node
quiet_by rule network releases node h = record {
  streams = λ i there begins. absurd (never i (stream_exists network i there) begins);
  sizes = λ k d there within begins. absurd (never _ within begins);
}
  where
    never : (i : ℕ) → i < length (senders_of network) → talker_of network i ≡ node → ⊥
    never i within =
        apart_by (talker_of network i) node
        (below_by (λ i. not (talker_of network i == node)) (length (senders_of network)) h i within)
