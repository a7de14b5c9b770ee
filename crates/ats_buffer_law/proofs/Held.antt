use Rattle.std.proofs.Common.{◌≡◌, ℕ, ◌+◌, ◌*◌, ◌/◌, ◌<◌, ◌≤◌, Bool, true, false, cond, List, filter, length, get_or}
use Rattle.std.proofs.Common.{All}
use Rattle.std.proofs.Common.{sum_by, refl, sym, ap, ◌∙◌, subst, inl, inr, arith}
use Rattle.std.specs.Prelude.{◌==◌, ◌&&◌}
use Rattle.std.proofs.lemmas.Bool.{cases_Bool, and_parts, eqb-true, eq-eqb, true≢false, cond-true}
use Rattle.std.proofs.lemmas.List.{get_or-map}
use Rattle.std.proofs.lemmas.List.Elements.{All-filter, filter_passes}
use Rattle.ats_num.specs.declared.time.TheConstants.{PS_PER_SECOND}
use Rattle.ats_clock.specs.declared.committed.Committed.{Committed}
use Rattle.ats_streams.specs.Stream.{DeclaredStream}
use Rattle.ats_network.specs.Sender.{Sender, stream_sender}
use Rattle.ats_network.specs.Network.{DeclaredNetwork, IsNetwork}
use Rattle.ats_network.specs.Rates.{committed_at}
use Rattle.ats_network.specs.Senders.{sender_at}
use Rattle.ats_certificate.specs.Certificate.{Holds}
use Rattle.ats_certificate.specs.declared.row.Row.{Row}
use Rattle.ats_group.specs.Judge.{bucket_rule}
use Rattle.ats_topology.specs.Port.{port_at}
use Rattle.ats_port_law.proofs.Senders.{no_stream, stream_at, is_stream}
use Rattle.ats_port_law.proofs.Sums.{sum_by-le-all, sum_by-none, sum_by-filter, sum_by-keys}
use Rattle.ats_port_law.proofs.Used.{used_place}
use Rattle.ats_trace.specs.Clocks.{IsLegal}
use Rattle.ats_trace.specs.Journey.{Travel, class_at}
use Rattle.ats_trace.specs.Projections.{Crossing, crossings_from, crossings_by}
use Rattle.ats_trace.specs.Run.{releases_of}
use Rattle.ats_trace.specs.Talker.{KeepsBuckets, read_by, talker_of}
use Rattle.ats_trace.specs.declared.journey.Release.{Release}
use Rattle.ats_clock_run_law.specs.Laws.{IsLegalInTrueTime}
use Rattle.ats_clock_run_law.proofs.Ideal.{stations_read_true_time}
use Rattle.ats_clock_run_law.proofs.TrueTime.{true_time_is_legal}
use Rattle.ats_soundness_law.specs.Sound.{BeginAtStations}
use Rattle.ats_soundness_law.specs.TrueTime.{KeepsBucketsIn}
use Rattle.ats_soundness_law.proofs.Along.{hop_of}
use Rattle.ats_soundness_law.proofs.Known.{Case, IsKnown}
use Rattle.ats_soundness_law.proofs.Node.{bridge_keeps}
use Rattle.ats_soundness_law.proofs.Streams.{stream_exists}
use Rattle.ats_soundness_law.proofs.ToldTimes.{case_in}
use Rattle.ats_soundness_law.proofs.TrueTime.{kept_in_true_time, promises_in}
use Rattle.ats_buffer.specs.Occupancy.{is_there, is_held, no_row, row_at}
use Rattle.ats_buffer.specs.Buffer.{counted_at, has_class, share_at, share_of, window_at, buffer_at}
use Rattle.ats_buffer_law.specs.Laws.{BridgeKeeps, NodesKeepBuckets, NodesKeepInTrueTime, TalkersKeepBuckets}
use Rattle.ats_buffer_law.specs.Laws.{BuffersHold, PeaksFit, StationsAreAsked}
use Rattle.ats_buffer_law.proofs.Came.{all_known}
use Rattle.ats_buffer_law.proofs.Fed.{kept_at}
use Rattle.ats_buffer_law.proofs.Windows.{OfStream, held_weight, within_window}

-- what is known of a crossing that is counted: its port, its class, and its sender
record IsCounted (network : DeclaredNetwork) (port class : ℕ) (c : Crossing) : Type 0 where
  at : c.port ≡ port
  ranked : c.sent.class ≡ class
  known : IsKnown network (hop_of c)

-- the frames of a class that are at a port
abbrev held : DeclaredNetwork → List Travel → ℕ → ℕ → ℕ → List Crossing
held network run port class time = filter (is_held class time) (crossings_by network run port)

all_counted : (network : DeclaredNetwork) (run : List Travel) (port class time : ℕ)
    → Case network run
    → All (IsCounted network port class) (held network run port class time)
all_counted network run port class time c k d h =
    let at_port = λ (x : Crossing). x.port == port in
    let all : List Crossing = crossings_from network 0 run in
    let one : Crossing = get_or (held network run port class time) k d in
    let Known : Crossing → Type 0 = λ (x : Crossing). IsKnown network (hop_of x) in
    let At : Crossing → Type 0 = λ (x : Crossing). at_port x ≡ true in
    let passes = filter_passes (is_held class time) (crossings_by network run port) k d h in
    record {
      at = eqb-true one.port port (All-filter (is_held class time) At (crossings_by network run port)
          (filter_passes at_port all) k d h);
      ranked = eqb-true one.sent.class class (and_parts (one.sent.class == class) (is_there time one) passes).0;
      known = All-filter (is_held class time) Known (crossings_by network run port)
          (All-filter at_port Known all (all_known network run c)) k d h;
    }

-- each is of a stream with the class at the port
counted_class : (network : DeclaredNetwork) (port class : ℕ) (c : Crossing) → IsCounted network port class c
    → class_at (sender_at network c.sent.sender) port ≡ class
counted_class network port class c is =
    ap (class_at (sender_at network c.sent.sender)) (sym is.at) ∙ sym is.known.ranked ∙ is.ranked

counted_stream : (network : DeclaredNetwork) (port class : ℕ) (c : Crossing) → 1 ≤ class
    → IsCounted network port class c → c.sent.sender < length network.streams
counted_stream network port class c some is =
    is_stream network port c.sent.sender is.known.exists (let same = counted_class network port class c is in
    omega (arith, same, some))

-- those of one stream, as a sum over all crossings
tests_joined : (here ranked there own : Bool) (n : ℕ)
    → cond here (cond (ranked && there) (cond own n 0) 0) 0 ≤ cond here (cond own (cond there n 0) 0) 0
tests_joined true true true true n = omega arith
tests_joined true true true false n = omega arith
tests_joined true true false own n = omega arith
tests_joined true false there own n = omega arith
tests_joined false ranked there own n = omega arith

held_by : (network : DeclaredNetwork) (run : List Travel) (port class time i : ℕ)
    → sum_by (λ (c : Crossing). cond (c.sent.sender == i) c.sent.bits 0) (held network run port class time)
    ≤ sum_by (held_weight i port time) (crossings_from network 0 run)
held_by network run port class time i =
    let own = λ (c : Crossing). cond (c.sent.sender == i) c.sent.bits 0 in
    let all : List Crossing = crossings_from network 0 run in
    let chosen = sum_by-filter own (is_held class time) (crossings_by network run port) in
    let there = sum_by-filter (λ (c : Crossing). cond (is_held class time c) (own c) 0)
    (λ (c : Crossing). c.port == port) all in
    let each = sum_by-le-all (λ (c : Crossing). cond (c.port == port) (cond (is_held class time c) (own c) 0) 0)
    (held_weight i port time) all
    (λ k d h. (let c : Crossing = get_or all k d in
    tests_joined (c.port == port) (c.sent.class == class) (is_there time c) (c.sent.sender == i) c.sent.bits)) in
    omega (arith, chosen, there, each)

-- a window's bits, in whole bits
rounded : (rate window burst bits : ℕ) → PS_PER_SECOND * bits ≤ rate * window + PS_PER_SECOND * burst
    → bits ≤ burst + rate * window / PS_PER_SECOND
rounded rate window burst bits h = omega (arith, h)

-- each stream has at most its share there
share_holds : (network : DeclaredNetwork) (rows : List Row) (run : List Travel) (port class time : ℕ)
    → IsNetwork network → Holds network rows → (legal : IsLegal network run) → 1 ≤ class
    → NodesKeepBuckets network run legal port class → (i : ℕ) → i < length network.streams
    → sum_by (λ (c : Crossing). cond (c.sent.sender == i) c.sent.bits 0) (held network run port class time)
    ≤ cond (has_class port class (get_or network.streams i no_stream))
    (share_at network rows port class (get_or network.streams i no_stream)) 0
share_holds network rows run port class time net holds legal some keep i h =
    let s : DeclaredStream = get_or network.streams i no_stream in
    let same : sender_at network i ≡ stream_sender s = stream_at network i h in
    let own = λ (c : Crossing). cond (c.sent.sender == i) c.sent.bits 0 in
    let Goal : Type 0 = sum_by own (held network run port class time)
    ≤ cond (has_class port class s) (share_at network rows port class s) 0 in
    elim (cases_Bool (has_class port class s)) as (λ _. Goal) [
      | inl has ↦ (
          let ranked : class_at (sender_at network i) port ≡ class =
          ap (λ (x : Sender). class_at x port) same ∙ eqb-true (class_at (stream_sender s) port) class has in
          let o : OfStream (KeepsBucketsIn network run legal) network rows run i port class = record {
            promises = promises_in network run net legal;
            holds = holds;
            exists = h;
            some = some;
            ranked = ranked;
            kept = kept_at (KeepsBucketsIn network run legal) network net i h (keep i h ranked).talker;
            here = (keep i h ranked).here;
            before = (keep i h ranked).before;
          } in
          let seen : Committed =
          committed_at network.topology (counted_at (sender_at network i) port) (sender_at network i) in
          let Within : Sender → Type 0 = λ (x : Sender).
          sum_by (held_weight i port time) (crossings_from network 0 run) ≤ share_of network rows port class x in
          let most : Within (stream_sender s) =
          subst Within same (rounded seen.rate (window_at network rows port class (sender_at network i))
          seen.burst_bits (sum_by (held_weight i port time) (crossings_from network 0 run))
          (within_window (KeepsBucketsIn network run legal) network rows run i port class o time)) in
          omega (
            arith,
            held_by network run port class time i,
            most,
            cond-true (has_class port class s) (share_at network rows port class s) 0 has,
          ))
      | inr none ↦ (
          let counted = all_counted network run port class time (case_in net legal) in
          let nothing = sum_by-none own (held network run port class time)
          (λ k d w. (
          let one : Crossing = get_or (held network run port class time) k d in
          other (one.sent.sender == i) one.sent.bits (λ e. true≢false
          (sym (eq-eqb (class_at (stream_sender s) port) class
          (ap (λ (x : Sender). class_at x port) (sym same)
          ∙ ap (λ (n : ℕ). class_at (sender_at network n) port) (sym (eqb-true one.sent.sender i e))
          ∙ counted_class network port class one (counted k d w))) ∙ none)))) in
          omega (arith, nothing))
    ]
  where
    other : (b : Bool) (n : ℕ) → (b ≡ true → ⊥) → cond b n 0 ≤ 0
    other true n h = absurd (h refl)
    other false n h = omega arith

pub buffers_hold : BuffersHold
buffers_hold network rows run port class net holds legal some keep time =
    let share = λ (s : DeclaredStream). cond (has_class port class s) (share_at network rows port class s) 0 in
    let counted = all_counted network run port class time (case_in net legal) in
    let all = sum_by-keys 1 (λ (x : Crossing). x.sent.bits) (λ (x : Crossing). x.sent.sender)
    (held network run port class time) share network.streams no_stream
    (λ k d h. counted_stream network port class (get_or (held network run port class time) k d) some (counted k d h))
    (λ i h. (
    let one = share_holds network rows run port class time net holds legal some keep i h in
    omega (arith, one))) in
    let shares = sum_by-filter (share_at network rows port class) (has_class port class) network.streams in
    omega (arith, all, shares)

-- what a node that is a station reads
read_there : (network : DeclaredNetwork) (run : List Travel) (legal : IsLegal network run) (i : ℕ)
    → BeginAtStations network → i < length network.streams
    → read_by (legal.clocks (talker_of network i)) (releases_of run) ≡ releases_of run
read_there network run legal i stations h =
    stations_read_true_time network run legal (talker_of network i) (releases_of run)
    (stations i (stream_exists network i h)).station

-- where no bridge has frames of its own, the talkers alone are asked
pub talkers_keep : (network : DeclaredNetwork) (run : List Travel) (legal : IsLegal network run) (port class : ℕ)
    → BeginAtStations network → TalkersKeepBuckets network run port class
    → NodesKeepBuckets network run legal port class
talkers_keep network run legal port class stations talkers i h ranked = record {
  talker = subst (λ (releases : List Release). KeepsBuckets network releases (talker_of network i))
      (sym (read_there network run legal i stations h)) (talkers i h ranked);
  here = no_frames port;
  before = λ q is. no_frames q;
}
  where
    no_frames : (p : ℕ) → BridgeKeeps (KeepsBucketsIn network run legal) network p
    no_frames p bridge =
        let node : ℕ = (port_at network.topology.ports p).from in
        bridge_keeps bucket_rule network (read_by (legal.clocks node) (releases_of run)) node stations bridge

talkers_keep_in_true_time : (network : DeclaredNetwork) (run : List Travel) (port class : ℕ) → BeginAtStations network
    → TalkersKeepBuckets network run port class → NodesKeepInTrueTime network run port class
talkers_keep_in_true_time network run port class stations talkers i h ranked = record {
  talker = talkers i h ranked;
  here = no_frames port;
  before = λ q is. no_frames q;
}
  where
    no_frames : (p : ℕ) → BridgeKeeps (KeepsBuckets network (releases_of run)) network p
    no_frames p bridge =
        bridge_keeps bucket_rule network (releases_of run) (port_at network.topology.ports p).from stations bridge

pub stations_are_asked : StationsAreAsked
stations_are_asked network run port class stations = record {
  by_clocks = λ legal. (
    λ keep. λ i h ranked. subst (λ (releases : List Release). KeepsBuckets network releases (talker_of network i))
        (read_there network run legal i stations h) (keep i h ranked).talker,
    λ talkers. talkers_keep network run legal port class stations talkers,
  );
  in_true_time = (
    λ keep. λ i h ranked. (keep i h ranked).talker,
    λ talkers. talkers_keep_in_true_time network run port class stations talkers,
  );
}

-- in a run by true time, buckets that are kept are kept by clocks that show it
nodes_keep : (network : DeclaredNetwork) (run : List Travel) (made : IsLegalInTrueTime network run) (port class : ℕ)
    → NodesKeepInTrueTime network run port class → NodesKeepBuckets network run made.legal port class
nodes_keep network run made port class keep i h ranked =
    let kept = kept_in_true_time network run made in
    record {
      talker = kept _ (keep i h ranked).talker;
      here = λ bridge. kept _ ((keep i h ranked).here bridge);
      before = λ q is bridge. kept _ ((keep i h ranked).before q is bridge);
    }

pub peaks_fit : PeaksFit
peaks_fit network rows run peaks net holds ideal are n h keep =
    let row : Row = row_at rows n in
    let peak = are.each n h in
    let made : IsLegalInTrueTime network run = true_time_is_legal network run net ideal in
    let some : 1 ≤ row.class =
    (used_place network row.port row.class net (holds.rows_of.used n no_row h)).ranked in
    let fits = buffers_hold network rows run row.port row.class net holds made.legal some
    (nodes_keep network run made row.port row.class keep) peak.reached.0 in
    let buffer = get_or-map (λ (row : Row). buffer_at network rows row.port row.class) rows n no_row 0 h in
    omega (arith, fits, peak.reached.1, buffer)
