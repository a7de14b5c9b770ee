use Rattle.std.specs.Prelude.{◌≡◌, ◌⊎◌, ℕ, ◌+◌, ◌*◌, ◌<◌, ◌≤◌, nat_lt, List, [], ◌∷◌, ◌++◌, codes, length, map}
use Rattle.std.specs.Prelude.{All, AllPairs, None, Some, count_by}
use Rattle.std.specs.List.{enumerate_from, flat_map}
use Rattle.ats_streams.specs.Stream.{DeclaredStream, branching_stream}
use Rattle.ats_network.specs.Listeners.{Listener, listeners_of}
use Rattle.ats_network.specs.Network.{DeclaredNetwork, long_network}
use Rattle.ats_certificate.specs.Certificate.{bound_on}
use Rattle.ats_bound.specs.Least.{least_certificate}
use Rattle.ats_explain.specs.Totals.{totals_of}
use Rattle.ats_explain.specs.declared.margin.Margin.{Margin}
use Rattle.ats_explain.specs.declared.totals.Tightest.{Tightest}
use Rattle.ats_explain.specs.declared.totals.Totals.{Totals}
use Rattle.ats_settings.specs.Settings.{AreSettings}
use Rattle.ats_settings.specs.declared.setting.Setting.{Setting}
use Rattle.ats_settings_law.specs.Laws.{AreOnlySettings}
use Rattle.ats_network_text.specs.Text as show
use Rattle.ats_explain_text.specs.Text as explain
use Rattle.ats_tree_examples.specs.Networks.{branch, split_by_class, split_stream, split_topology, stream_of}
use Rattle.ats_tree_bound_examples.specs.Settings.{told_of}

-- Streams, flows and listeners are told one after another as the file has them, whatever their names are: for all
-- networks, and of two streams of which the first has the greater name.

-- `show` has the ports, the streams and the flows in their order
abbrev pub ShowIsInOrder : Type 0
ShowIsInOrder = (network : DeclaredNetwork) → show.show_text network
    ≡ flat_map (show.port_line network.topology) (enumerate_from 0 network.topology.ports)
    ++ flat_map (show.stream_text network.topology) network.streams
    ++ flat_map (show.flow_line network.topology) network.flows
    ++ show.totals_line (length network.topology.ports) (length network.streams) (length network.flows)

-- `explain` has the streams and then the ports
abbrev pub ExplainIsInOrder : Type 0
ExplainIsInOrder = (network : DeclaredNetwork) → explain.explain_text network
    ≡ flat_map (explain.stream_text network) network.streams
    ++ flat_map (explain.port_text network) (enumerate_from 0 network.topology.ports)
    ++ explain.totals_line (totals_of network)

-- a stream with each of its listeners, stream by stream
abbrev pub listeners_in_order : DeclaredNetwork → List (DeclaredStream × Listener)
listeners_in_order network =
    flat_map (λ (s : DeclaredStream). map (λ l. (s, l)) (listeners_of network.topology s)) network.streams

-- the sum of the least bounds on a listener's route, and the deadline of its stream
abbrev pub least_margin : DeclaredNetwork → DeclaredStream × Listener → Margin
least_margin network one = record {
  sum = bound_on (least_certificate network) one.0 one.1.route;
  deadline = 1000 * one.0.deadline_ns;
}

-- each listener whose sum is over the deadline counts as late, of each stream
abbrev pub EachLateCounts : Type 0
EachLateCounts = (network : DeclaredNetwork) → (totals_of network).late
    ≡ count_by (λ (m : Margin). nat_lt m.deadline m.sum) (map (least_margin network) (listeners_in_order network))

-- the first margin has no more slack than the second
abbrev pub HasNoMoreSlack : Margin → Margin → Type 0
HasNoMoreSlack m other = m.deadline + other.sum ≤ other.deadline + m.sum

-- what is told as the tightest is a listener that has no more slack than any, and less than each before it
pub record IsFirstTightest (network : DeclaredNetwork) (told : Tightest) : Type 0 where
  pub before : List (DeclaredStream × Listener)
  pub one : DeclaredStream × Listener
  pub after : List (DeclaredStream × Listener)
  pub cut : before ++ one ∷ after ≡ listeners_in_order network
  pub name : told.name ≡ one.0.name
  pub listener : told.listener ≡ one.1.name
  pub margin : told.margin ≡ least_margin network one
  pub least : All (λ (other : DeclaredStream × Listener). HasNoMoreSlack (least_margin network one)
      (least_margin network other)) (listeners_in_order network)
  pub first : All (λ (other : DeclaredStream × Listener). ¬ HasNoMoreSlack (least_margin network other)
      (least_margin network one)) before

abbrev pub FirstTightestIsTold : Type 0
FirstTightestIsTold = (network : DeclaredNetwork) (told : Tightest) → (totals_of network).tightest ≡ Some told
    → IsFirstTightest network told

-- a setting stands before another one by the number of its bridge, then by that of its port of reception, then by the
-- class there, and then by the number of its sender
abbrev pub IsSetBefore : Setting → Setting → Type 0
IsSetBefore s t = (s.bridge < t.bridge) ⊎ ((s.bridge ≡ t.bridge) × ((s.received_from < t.received_from)
    ⊎ ((s.received_from ≡ t.received_from) × ((s.class < t.class) ⊎ ((s.class ≡ t.class) × (s.sender ≤ t.sender))))))

abbrev pub SettingsAreInOrder : Type 0
SettingsAreInOrder = (network : DeclaredNetwork) (settings : List Setting) → AreSettings network settings
    → AllPairs IsSetBefore settings

-- the streams of the split by class in the other order, both with this deadline in nanoseconds; and two streams to both
-- listeners each
abbrev pub turned_by_class : ℕ → DeclaredNetwork
turned_by_class deadline_ns = long_network split_by_class.topology
    (branching_stream (codes "z") (0 ∷ 4 ∷ []) [] (6 ∷ 5 ∷ []) 50000000 12336 64 1522 deadline_ns None
    ∷ split_stream (6 ∷ 6 ∷ 5 ∷ []) deadline_ns
    ∷ [])
    []

abbrev pub two_splits : ℕ → DeclaredNetwork
two_splits deadline_ns = long_network split_topology
    (stream_of (codes "z") (0 ∷ 2 ∷ 4 ∷ []) (branch 2 0 1 ∷ []) (6 ∷ []) deadline_ns
    ∷ split_stream (6 ∷ []) deadline_ns
    ∷ [])
    []

-- the totals of two streams, of which so many listeners are late, by a greatest sum of 51344000 ps, and the first
-- stream's first listener is the tightest
abbrev pub totals_with_first : ℕ → ℕ → Totals
totals_with_first late deadline = record {
  streams = 2;
  late = late;
  over = 0;
  tightest = Some (record {
    name = codes "z";
    listener = None;
    margin = record { sum = 51344000; deadline = deadline };
  });
}

-- where both streams have two late listeners each all four count; where the second has the only branch one of its two
-- counts, and the first stream is as tight as this one; and its setting is told first
pub record FirstHasGreaterName : Type 0 where
  pub of_two : totals_of (two_splits 51343) ≡ totals_with_first 4 51343000
  pub behind : totals_of (turned_by_class 50000) ≡ totals_with_first 2 50000000
  pub settings : AreOnlySettings (turned_by_class 50000)
      (told_of 0 50000000 100000 3 0 4 5 ∷ told_of 1 100000000 100000 3 0 2 6 ∷ told_of 1 100000000 100000 3 0 4 5 ∷ [])

pub record AllIsInFileOrder : Type 0 where
  pub show : ShowIsInOrder
  pub explain : ExplainIsInOrder
  pub late : EachLateCounts
  pub tightest : FirstTightestIsTold
  pub settings : SettingsAreInOrder
  pub worked : FirstHasGreaterName
