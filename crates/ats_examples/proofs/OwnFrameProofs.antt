use Rattle.std.proofs.Common.{◌≡◌, ℕ, zero, suc, ◌+◌, ◌*◌, ◌<◌, ◌≤◌, Bool, true, ◌&&◌, List, [], length, get_or}
use Rattle.std.proofs.Common.{All, refl, sym, subst, arith, lit<, lit≤}
use Rattle.std.specs.Prelude.{Contains, nat_lt}
use Rattle.std.specs.List.{list_all}
use Rattle.std.proofs.lemmas.Bool.{and_parts}
use Rattle.std.proofs.lemmas.List.Elements.{All-nil, All-cons, All-contains_itself}
use Rattle.ats_topology.specs.Port.{port_at}
use Rattle.ats_group.specs.Judge.{ats_judge, bucket_rule}
use Rattle.ats_group_law.proofs.Regulator.{ats_is_regulator}
use Rattle.ats_network.specs.Bridges.{IsBridgeAt}
use Rattle.ats_network.specs.Network.{DeclaredNetwork, IsNetwork}
use Rattle.ats_network.specs.Senders.{sender_at}
use Rattle.ats_certificate.specs.declared.row.Row.{Row}
use Rattle.ats_trace.specs.Journey.{Travel}
use Rattle.ats_trace.specs.Clocks.{IsLegal}
use Rattle.ats_trace.specs.Run.{IsIdeal, releases_of}
use Rattle.ats_trace.specs.Stored.{travel_at}
use Rattle.ats_trace.specs.Talker.{talker_of, KeepsBuckets, read_by}
use Rattle.ats_trace.specs.Ways.{listener_count, route_to, way_to}
use Rattle.ats_trace.specs.declared.journey.Release.{Release}
use Rattle.ats_soundness_law.specs.Sound.{BridgesKeep, IsContained, IsContainedOn, IsServed, IsServedOn, all_but_first}
use Rattle.ats_soundness_law.specs.Runs.{ats_runs, in_true_time}
use Rattle.ats_soundness_law.specs.Sound.{BridgesKeepIn, IsSoundBy}
use Rattle.ats_soundness_law.specs.TrueTime.{KeepsBucketsIn}
use Rattle.ats_soundness_law.proofs.EachRule.{rule_of_holding}
use Rattle.ats_soundness_law.proofs.Soundness.{sound_by_rules}
use Rattle.ats_soundness_law.proofs.TrueTime.{certificate_is_sound}
use Rattle.ats_examples.specs.Networks.{line_links, line_nodes, two_links, two_nodes}
use Rattle.ats_examples.specs.OwnFrames.{EndsMayBabble, OwnAreContained, OwnBabblerCounts, OwnDelayCounts}
use Rattle.ats_examples.specs.OwnFrames.{OwnFramesAreServed, long, long_nodes, long_rows, long_stay, long_streams}
use Rattle.ats_examples.specs.OwnFrames.{own, own_babbler, own_beside, own_delay, own_frames, own_held, own_rows}
use Rattle.ats_examples.specs.SoundRuns.{IsCertified}
use Rattle.ats_examples.proofs.BucketTest.{is_sized, keeps_by, stream_keeps}
use Rattle.ats_examples.proofs.NetworkTest.{long_network_by}
use Rattle.ats_examples.proofs.PartTest.{legal_by}
use Rattle.ats_examples.proofs.RuleTest.{holds_by}
use Rattle.ats_examples.proofs.StationTest.{keeps_in, quiet_by}
use Rattle.ats_examples.proofs.Tests.{all_by, below_by, each_below, lt_of}

-- Runs in which a bridge sends frames of its own.

own_is : IsNetwork own
own_is = long_network_by line_nodes line_links own.streams [] refl refl

pub own_certified : IsCertified own own_rows
own_certified = record { rules = own_is; holds = holds_by own own_rows refl refl }

-- each node that one of these ports leaves keeps its buckets, so each bridge does
abbrev node_keeps : DeclaredNetwork → List Release → ℕ → Bool
node_keeps network releases p =
    each_below (stream_keeps network releases (port_at network.topology.ports p).from) (length network.streams)

pub keep_by : (network : DeclaredNetwork) (releases : List Release) (ports : List ℕ)
    → list_all (node_keeps network releases) ports ≡ true → list_all (is_sized network) releases ≡ true
    → BridgesKeep bucket_rule network releases ports
keep_by network releases ports passed sized =
    all_by (λ p. IsBridgeAt network.topology (port_at network.topology.ports p).from
    → KeepsBuckets network releases (port_at network.topology.ports p).from) (node_keeps network releases)
    (λ p h bridge. keeps_by network releases (port_at network.topology.ports p).from h sized) ports passed

-- a frame of a stream, where so it is on each of its routes
abbrev routes_keep : DeclaredNetwork → List Travel → Travel → Bool
routes_keep network run j = each_below
    (λ n. list_all (node_keeps network (releases_of run)) (route_to (sender_at network j.release.sender) n))
    (listener_count (sender_at network j.release.sender))

abbrev is_kept : DeclaredNetwork → List Travel → Travel → Bool
is_kept network run j =
    nat_lt j.release.sender (length network.streams)
    && (each_below (stream_keeps network (releases_of run) (talker_of network j.release.sender))
    (length network.streams)
    && routes_keep network run j)

-- is served, by the path law
sound_of : (network : DeclaredNetwork) (rows : List Row) → IsCertified network rows
    → IsSoundBy (in_true_time ats_judge bucket_rule) network rows
sound_of network rows c = sound_by_rules ats_judge network rows ats_is_regulator.regulator c.rules
    (rule_of_holding network rows c.holds)

served_by : (network : DeclaredNetwork) (rows : List Row) (run : List Travel) → IsCertified network rows
    → IsIdeal network run → list_all (is_sized network) (releases_of run) ≡ true → (j : Travel) → Contains run j
    → is_kept network run j ≡ true → IsServed rows (sender_at network j.release.sender) j
served_by network rows run c legal sized j there h n within =
    let keeps : Bool =
    each_below (stream_keeps network (releases_of run) (talker_of network j.release.sender)) (length network.streams) in
    let first = and_parts (nat_lt j.release.sender (length network.streams)) (keeps && routes_keep network run j) h in
    let second = and_parts keeps (routes_keep network run j) first.1 in
    (sound_of network rows c).served run legal j there (lt_of j.release.sender (length network.streams) first.0)
    (keeps_by network (releases_of run) (talker_of network j.release.sender) second.0 sized) n within
    (keep_by network (releases_of run) (route_to (sender_at network j.release.sender) n)
    (below_by (λ k. list_all (node_keeps network (releases_of run)) (route_to (sender_at network j.release.sender) k))
    (listener_count (sender_at network j.release.sender)) second.1 n within) sized)

pub own_legal : IsIdeal own own_frames
own_legal = legal_by own own_frames refl

all_kept : All (λ (j : Travel). is_kept own own_frames j ≡ true) own_frames
all_kept =
    all_by (λ (j : Travel). is_kept own own_frames j ≡ true) (is_kept own own_frames) (λ j h. h) own_frames refl

pub own_served : OwnFramesAreServed
own_served = record {
  certified = own_certified;
  bridge = record { within = lit< tt; bridge = refl };
  legal = own_legal;
  station_keeps = keeps_by own (releases_of own_frames) (talker_of own 0) refl refl;
  bridge_keeps = keeps_by own (releases_of own_frames) (talker_of own 1) refl refl;
  served = λ k d h. served_by own own_rows own_frames own_certified own_legal refl (get_or own_frames k d)
      (All-contains_itself own_frames k d h) (all_kept k d h);
}

-- three frames are more than the burst
babbles : ¬ KeepsBuckets own (releases_of own_babbler) (talker_of own 1)
babbles keeps =
    let over : 1000000000000 * 2016 ≤ 10000000 * 0 + 1000000000000 * 672 =
    (keeps.streams 1 (lit< tt) refl).within 0 2 (lit≤ tt) (lit< tt) in
    absurd (omega arith)

not_served : ¬ IsServed own_rows (sender_at own 0) (travel_at own_babbler 0)
not_served served =
    let over : 28688000 ≤ 13836000 + 13632607 = (served 0 (lit< tt)).prompt.1.1 in
    absurd (omega arith)

not_contained : ¬ IsContained own_rows (sender_at own 0) (travel_at own_babbler 0)
not_contained contained =
    let over : 28688000 ≤ 13836000 + 13632607 = contained 0 (lit< tt) in
    absurd (omega arith)

pub own_babbler_counts : OwnBabblerCounts
own_babbler_counts = record {
  certified = own_certified;
  legal = legal_by own own_babbler refl;
  keeps = keeps_by own (releases_of own_babbler) (talker_of own 0) refl refl;
  babbles = babbles;
  not_served = not_served;
  not_contained = not_contained;
  arrives = refl;
  after = lit< tt;
}

-- by the path law a frame of a stream with this number is served, in each legal run
served_of : (network : DeclaredNetwork) (rows : List Row) (run : List Travel) → IsCertified network rows
    → (legal : IsLegal network run) (i : ℕ) → i < length network.streams → (j : Travel) → Contains run j
    → j.release.sender ≡ i → KeepsBucketsIn network run legal (talker_of network i)
    → (n : ℕ) → n < listener_count (sender_at network i)
    → BridgesKeepIn ats_runs network run legal (route_to (sender_at network i) n)
    → IsServedOn rows (sender_at network i) j.release (route_to (sender_at network i) n)
    (way_to (sender_at network i) j n)
served_of network rows run c legal i stream j there is =
    let Served : ℕ → Type 0 = λ (k : ℕ).
    KeepsBucketsIn network run legal (talker_of network k) → (n : ℕ) → n < listener_count (sender_at network k)
    → BridgesKeepIn ats_runs network run legal (route_to (sender_at network k) n)
    → IsServedOn rows (sender_at network k) j.release (route_to (sender_at network k) n)
    (way_to (sender_at network k) j n) in
    subst Served is
    ((certificate_is_sound network rows c.rules c.holds).served run legal j there
    (subst (λ (k : ℕ). k < length network.streams) (sym is) stream))

-- and by containment it is contained
contained_of : (network : DeclaredNetwork) (rows : List Row) (run : List Travel) → IsCertified network rows
    → (legal : IsLegal network run) (i : ℕ) → i < length network.streams → (j : Travel) → Contains run j
    → j.release.sender ≡ i → (n : ℕ) → n < listener_count (sender_at network i)
    → BridgesKeepIn ats_runs network run legal (all_but_first (route_to (sender_at network i) n))
    → IsContainedOn rows (sender_at network i) (route_to (sender_at network i) n) (way_to (sender_at network i) j n)
contained_of network rows run c legal i stream j there is =
    let Contained : ℕ → Type 0 = λ (k : ℕ). (n : ℕ) → n < listener_count (sender_at network k)
    → BridgesKeepIn ats_runs network run legal (all_but_first (route_to (sender_at network k) n))
    → IsContainedOn rows (sender_at network k) (route_to (sender_at network k) n)
    (way_to (sender_at network k) j n) in
    subst Contained is
    ((certificate_is_sound network rows c.rules c.holds).contained run legal j there
    (subst (λ (k : ℕ). k < length network.streams) (sym is) stream))

-- the port to the bridge leaves a station, so no bridge is asked
end_served : (run : List Travel) → IsLegal own run → KeepsBuckets own (releases_of run) (talker_of own 2)
    → (j : Travel) → Contains run j → j.release.sender ≡ 2 → IsServed own_rows (sender_at own 2) j
end_served run legal keeps j there is zero within =
    let Keeps : ℕ → Type 0 = λ p. IsBridgeAt own.topology (port_at own.topology.ports p).from
    → KeepsBucketsIn own run legal (port_at own.topology.ports p).from in
    let by_clock : KeepsBucketsIn own run legal (talker_of own 2) =
    keeps_in own run legal (talker_of own 2) refl keeps in
    served_of own own_rows run own_certified legal 2 (lit< tt) j there is by_clock 0 (lit< tt)
    (All-cons Keeps 0 [] (λ bridge. by_clock) (All-nil Keeps))
end_served run legal keeps j there is (suc n) within = absurd (let one : suc n < 1 = within in omega (arith, one))

-- three frames are more than the burst of the stream that begins at the bridge
beside_babbles : ¬ KeepsBuckets own (releases_of own_beside) (talker_of own 1)
beside_babbles keeps =
    let over : 1000000000000 * 2016 ≤ 10000000 * 0 + 1000000000000 * 672 =
    (keeps.streams 1 (lit< tt) refl).within 0 2 (lit≤ tt) (lit< tt) in
    absurd (omega arith)

pub ends_may_babble : EndsMayBabble
ends_may_babble = record {
  certified = own_certified;
  legal = legal_by own own_beside refl;
  babbles = beside_babbles;
  keeps = keeps_by own (releases_of own_beside) (talker_of own 2) refl refl;
  served = end_served;
}

long_is : IsNetwork long
long_is = long_network_by long_nodes two_links long_streams [] refl refl

-- twenty frames are more than the burst too
long_babbles : ¬ KeepsBuckets long (releases_of own_delay) (talker_of long 1)
long_babbles keeps =
    let over : 1000000000000 * 13440 ≤ 10000000 * 0 + 1000000000000 * 672 =
    (keeps.streams 1 (lit< tt) refl).within 0 19 (lit≤ tt) (lit< tt) in
    absurd (omega arith)

pub own_delay_counts : OwnDelayCounts
own_delay_counts = record {
  certified = record { rules = long_is; holds = holds_by long long_rows refl refl };
  legal = legal_by long own_delay refl;
  keeps = keeps_by long (releases_of own_delay) (talker_of long 0) refl refl;
  babbles = long_babbles;
  not_served = λ served. (served 0 (lit< tt)).arrives;
  discarded = refl;
}

stay_certified : IsCertified long_stay long_rows
stay_certified = record {
  rules = long_network_by two_nodes two_links long_streams [] refl refl;
  holds = holds_by long_stay long_rows refl refl;
}

-- behind its first port the route of the stream from the first bridge goes over the second one alone, where no route
-- begins
bridge_contained : (run : List Travel) → IsLegal long_stay run → (j : Travel) → Contains run j
    → j.release.sender ≡ 1 → IsContained long_rows (sender_at long_stay 1) j
bridge_contained run legal j there is zero within =
    let Keeps : ℕ → Type 0 = λ p. IsBridgeAt long_stay.topology (port_at long_stay.topology.ports p).from
    → KeepsBucketsIn long_stay run legal (port_at long_stay.topology.ports p).from in
    contained_of long_stay long_rows run stay_certified legal 1 (lit< tt) j there is 0 (lit< tt)
    (All-cons Keeps 4 [] (λ bridge. quiet_by bucket_rule long_stay (read_by (legal.clocks 3) (releases_of run)) 3 refl)
    (All-nil Keeps))
bridge_contained run legal j there is (suc n) within = absurd (let one : suc n < 1 = within in omega (arith, one))

-- two frames are more than the burst, at the bridge that the first port leaves
held_babbles : ¬ BridgesKeep bucket_rule long_stay (releases_of own_held) (route_to (sender_at long_stay 1) 0)
held_babbles bridges =
    let keeps : KeepsBuckets long_stay (releases_of own_held) (talker_of long_stay 1) =
    bridges 0 0 (lit< tt) (record { within = lit< tt; bridge = refl }) in
    let over : 1000000000000 * 1344 ≤ 10000000 * 0 + 1000000000000 * 672 =
    (keeps.streams 1 (lit< tt) refl).within 0 1 (lit≤ tt) (lit< tt) in
    absurd (omega arith)

held_not_served : ¬ IsServed long_rows (sender_at long_stay 1) (travel_at own_held 1)
held_not_served served =
    let over : 69372000 ≤ 0 + 14508000 = (served 0 (lit< tt)).prompt.1.0 in
    absurd (omega arith)

pub own_are_contained : OwnAreContained
own_are_contained = record {
  certified = stay_certified;
  legal = legal_by long_stay own_held refl;
  babbles = held_babbles;
  not_served = held_not_served;
  contained = bridge_contained;
}
