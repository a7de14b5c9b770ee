-- Sound bounds where each bridge goes by its own clock.
use Rattle.std.proofs.Common.{◌≡◌, ℕ, true, List, [], ◌∷◌, refl, sym, ap, ◌∙◌, subst}
use Rattle.std.specs.Prelude.{◌↔◌}
use Rattle.std.proofs.lemmas.Bool.{false≢true}
use Rattle.ats_topology.specs.Node.{is_station}
use Rattle.ats_topology.specs.Topology.{IsStationAt, node_at}
use Rattle.ats_topology.specs.declared.node.Kind.{Kind}
use Rattle.ats_topology.specs.declared.node.Kind.TheVariants.{Bridge, Station}
use Rattle.ats_network.specs.Network.{DeclaredNetwork, IsNetwork}
use Rattle.ats_bucket.specs.Conforming.{Frame}
use Rattle.ats_streams.specs.declared.traffic.Declared.{Declared}
use Rattle.ats_group.specs.Judge.{bucket_rule}
use Rattle.ats_trace.specs.Clocks.{IsLegal, KeepsNodeClock}
use Rattle.ats_trace.specs.Journey.{Travel}
use Rattle.ats_trace.specs.Run.{releases_of}
use Rattle.ats_trace.specs.Talker.{KeepsBuckets, read_by}
use Rattle.ats_trace.specs.declared.journey.Release.{Release}
pub use Rattle.ats_clock_run_law.specs.Laws.{IsLegalInTrueTime}
pub use Rattle.ats_clock_run_law.proofs.TrueTime.{true_time_is_legal}
use Rattle.ats_network.specs.Senders.{sender_at}
use Rattle.ats_trace.specs.Ways.{route_to}
use Rattle.ats_soundness_law.specs.Laws.{CertificateIsSound, Containment, PathLaw, SoundByClocks, SoundInTrueTime}
use Rattle.ats_soundness_law.specs.Laws.{StationsPromiseAll}
use Rattle.ats_soundness_law.specs.Runs.{ats_runs}
use Rattle.ats_soundness_law.specs.Sound.{BeginAtStations, BridgesKeep, BridgesKeepIn, all_but_first}
use Rattle.ats_soundness_law.specs.TrueTime.{KeepsBucketsIn}
use Rattle.ats_soundness_law.proofs.EachRule.{rule_of_holding}
use Rattle.ats_soundness_law.proofs.Node.{bridge_keeps}
use Rattle.ats_soundness_law.proofs.OfferedIn.{port_is_offered}
use Rattle.ats_soundness_law.proofs.Serving.{Promises, RowsHold}
use Rattle.ats_soundness_law.proofs.ShapedIn.{shaping_for_free}
use Rattle.ats_soundness_law.proofs.Soundness.{contained, promise_in_true_time, rows_hold, served, stations_promise}
use Rattle.ats_soundness_law.proofs.ToldTimes.{case_in}

-- what a legal run promises where nodes keep their buckets by their clocks
pub promises_in : (network : DeclaredNetwork) (run : List Travel) → IsNetwork network
    → (legal : IsLegal network run) → Promises (KeepsBucketsIn network run legal) network run
promises_in network run net legal = record {
  case = case_in net legal;
  offered = λ port within keeps. port_is_offered network run port net legal within keeps;
  free = λ row used bridge holds keeps. shaping_for_free network run row net legal used bridge holds keeps;
}

pub sound_by_clocks : SoundByClocks
sound_by_clocks network rows net keeps =
    let holds : RowsHold network rows = rows_hold network rows keeps in
    record {
      served = λ run legal j there stream kept m within bridges.
          served network rows run (promises_in network run net legal) holds j there stream kept m within bridges;
      contained = λ run legal j there stream m within bridges.
          contained network rows run (promises_in network run net legal) holds j there stream m within bridges;
    }

pub certificate_is_sound : CertificateIsSound
certificate_is_sound network rows net holds =
    sound_by_clocks network rows net (rule_of_holding network rows holds)

pub path_law : PathLaw
path_law network rows net holds = (certificate_is_sound network rows net holds).served

pub containment : Containment
containment network rows net holds = (certificate_is_sound network rows net holds).contained

-- a station reads true time
same_releases : (shows : ℕ → ℕ) → ((t : ℕ) → shows t ≡ t) → (releases : List Release)
    → read_by shows releases ≡ releases
same_releases shows same [] = refl
same_releases shows same (r ∷ releases) =
    ap (λ (t : ℕ). (let read : Release = record r { at = record { 0 = t } } in read ∷ read_by shows releases))
    (same r.at.0)
    ∙ ap (λ (rs : List Release). r ∷ rs) (same_releases shows same releases)

-- where all nodes read true time, a node keeps its buckets by its clock where it keeps them
pub kept_in_true_time : (network : DeclaredNetwork) (run : List Travel) (made : IsLegalInTrueTime network run)
    (node : ℕ)
    → KeepsBuckets network (releases_of run) node → KeepsBucketsIn network run made.legal node
kept_in_true_time network run made node keeps =
    subst (λ (rs : List Release). KeepsBuckets network rs node)
    (sym (same_releases (made.legal.clocks node) (made.true_time node) (releases_of run))) keeps

pub bridges_in_true_time : (network : DeclaredNetwork) (run : List Travel) (made : IsLegalInTrueTime network run)
    (path : List ℕ) → BridgesKeep bucket_rule network (releases_of run) path
    → BridgesKeepIn ats_runs network run made.legal path
bridges_in_true_time network run made path keep k d h bridge =
    kept_in_true_time network run made _ (keep k d h bridge)

pub sound_in_true_time : SoundInTrueTime
sound_in_true_time network rows net sound = record {
  served = λ run ideal j there stream kept m within bridges. (
      let made : IsLegalInTrueTime network run = true_time_is_legal network run net ideal in
      sound.served run made.legal j there stream (kept_in_true_time network run made _ kept) m within
      (bridges_in_true_time network run made (route_to (sender_at network j.release.sender) m) bridges));
  contained = λ run ideal j there stream m within bridges. (
      let made : IsLegalInTrueTime network run = true_time_is_legal network run net ideal in
      sound.contained run made.legal j there stream m within (bridges_in_true_time network run made
      (all_but_first (route_to (sender_at network j.release.sender) m)) bridges));
}

station_reads : (kind : Kind) (shows : ℕ → ℕ) → is_station kind ≡ true → KeepsNodeClock kind shows
    → (t : ℕ) → shows t ≡ t
station_reads Station shows station keeps = keeps
station_reads (Bridge processing_min_ns processing_max_ns residence_ns clock_ppm clock_step_ps) shows station keeps =
    absurd (false≢true station)

at_station : (network : DeclaredNetwork) (run : List Travel) (legal : IsLegal network run) (node : ℕ)
    → IsStationAt network.topology node → read_by (legal.clocks node) (releases_of run) ≡ releases_of run
at_station network run legal node station =
    same_releases (legal.clocks node)
    (station_reads (node_at network.topology.nodes node).kind (legal.clocks node) station.station (legal.keeps node))
    (releases_of run)

pub bridges_keep_in : (network : DeclaredNetwork) (run : List Travel) (legal : IsLegal network run) (path : List ℕ)
    → BeginAtStations network → BridgesKeepIn ats_runs network run legal path
bridges_keep_in network run legal path stations k d h bridge =
    bridge_keeps bucket_rule network (read_by (legal.clocks _) (releases_of run)) _ stations bridge

-- a station keeps its buckets by its clock exactly where it keeps them in true time
pub station_keeps : (network : DeclaredNetwork) (run : List Travel) (legal : IsLegal network run) (node : ℕ)
    → IsStationAt network.topology node
    → KeepsBucketsIn network run legal node ↔ KeepsBuckets network (releases_of run) node
station_keeps network run legal node station = (
  subst (λ (rs : List Release). KeepsBuckets network rs node) (at_station network run legal node station),
  subst (λ (rs : List Release). KeepsBuckets network rs node) (sym (at_station network run legal node station)),
)

pub stations_promise_all : (rule : Declared → List Frame → Type 0) → StationsPromiseAll rule
stations_promise_all rule = record {
  by_rule = λ judge. promise_in_true_time judge rule;
  by_buckets = stations_promise ats_runs bridges_keep_in station_keeps;
}
