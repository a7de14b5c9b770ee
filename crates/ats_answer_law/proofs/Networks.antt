-- What words come to that say what a network is.
use Rattle.std.proofs.Common.{◌≡◌, ℕ, List, get_or, All, ap, ◌∙◌, arith}
use Rattle.std.specs.Prelude.{◌↔◌, Contains}
use Rattle.std.proofs.lemmas.List.Elements.{All-contains, Contains-get_or}
use Rattle.std.proofs.lemmas.Option.{get_or_from_slice_get, slice_get-get_or, slice_get_within}
use Rattle.ats_clock.specs.Clock.{DeclaredClock, declared_clock, ideal}
use Rattle.ats_topology.specs.Node.{clock_of}
use Rattle.ats_topology.specs.Topology.{DeclaredTopology, IsLink, IsNode, IsStationAt}
use Rattle.ats_topology.specs.declared.node.Node.{Node}
use Rattle.ats_topology.specs.declared.link.Link.{Link}
use Rattle.ats_streams.specs.Branches.{routes_of}
use Rattle.ats_streams.specs.Flow.{DeclaredFlow}
use Rattle.ats_streams.specs.Stream.{DeclaredStream, IsIdentity, IsStream}
use Rattle.ats_network.specs.Ends.{beginning_of}
use Rattle.ats_network.specs.Listeners.{end_of}
use Rattle.ats_network.specs.Network.{AreIdentified, DeclaredNetwork, IsNetwork}
use Rattle.ats_network_file.specs.Stations.{JoinStations, JoinsStations}
use Rattle.ats_answer_law.proofs.FormatClocks.{ideal_before}
use Rattle.ats_answer_law.specs.Networks.{HaveOwnIdentities, IsOneOfStations, IsWithinLimits, NetworksAreMeant}

one_of : (topology : DeclaredTopology) (node : ℕ) → IsStationAt topology node → IsOneOfStations topology node
one_of topology node is = (is.within, is.station)

station : (topology : DeclaredTopology) (node : ℕ) → IsOneOfStations topology node → IsStationAt topology node
station topology node is = record { within = is.0; station = is.1 }

-- both ends of a route
abbrev EndAtStations : DeclaredTopology → List ℕ → Type 0
EndAtStations topology route = IsOneOfStations topology (beginning_of topology.ports route)
    × IsOneOfStations topology (end_of topology.ports route)

ends : (topology : DeclaredTopology) (route : List ℕ) → JoinsStations topology route → EndAtStations topology route
ends topology route joins = (
  one_of topology (beginning_of topology.ports route) joins.begins,
  one_of topology (end_of topology.ports route) joins.ends,
)

joins : (topology : DeclaredTopology) (route : List ℕ) → EndAtStations topology route → JoinsStations topology route
joins topology route both = record {
  begins = station topology (beginning_of topology.ports route) both.0;
  ends = station topology (end_of topology.ports route) both.1;
}

-- of all elements of a list, or of each that it contains
each_of : {X : Type 0} (P Q : X → Type 0) (xs : List X) → ((x : X) → P x → Q x) → All P xs
    → (x : X) → Contains xs x → Q x
each_of P Q xs then all x among = then x (All-contains P xs x all among)

all_of : {X : Type 0} (P Q : X → Type 0) (xs : List X) → ((x : X) → Q x → P x)
    → ((x : X) → Contains xs x → Q x) → All P xs
all_of P Q xs then each k d below = then (get_or xs k d) (each (get_or xs k d) (Contains-get_or xs k d below))

-- each route of a stream
abbrev RoutesJoin : DeclaredTopology → DeclaredStream → Type 0
RoutesJoin topology s = All (JoinsStations topology) (routes_of s.ports s.branches)

abbrev RoutesEnd : DeclaredTopology → DeclaredStream → Type 0
RoutesEnd topology s =
    (route : List ℕ) → Contains (routes_of s.ports s.branches) route → EndAtStations topology route

routes_end : (topology : DeclaredTopology) (s : DeclaredStream) → RoutesJoin topology s → RoutesEnd topology s
routes_end topology s all =
    each_of (JoinsStations topology) (EndAtStations topology) (routes_of s.ports s.branches) (ends topology) all

routes_join : (topology : DeclaredTopology) (s : DeclaredStream) → RoutesEnd topology s → RoutesJoin topology s
routes_join topology s each =
    all_of (JoinsStations topology) (EndAtStations topology) (routes_of s.ports s.branches) (joins topology) each

-- the path of a flow
abbrev PathJoins : DeclaredTopology → DeclaredFlow → Type 0
PathJoins topology f = JoinsStations topology f.path

abbrev PathEnds : DeclaredTopology → DeclaredFlow → Type 0
PathEnds topology f = EndAtStations topology f.path

join : (network : DeclaredNetwork) → JoinStations network
    ↔ (((s : DeclaredStream) → Contains network.streams s → RoutesEnd network.topology s)
    × ((f : DeclaredFlow) → Contains network.flows f → PathEnds network.topology f))
join network =
    let t = network.topology in (
      λ h. (
        each_of (RoutesJoin t) (RoutesEnd t) network.streams (routes_end t) h.streams,
        each_of (PathJoins t) (PathEnds t) network.flows (λ f. ends t f.path) h.flows,
      ),
      λ h. record {
        streams = all_of (RoutesJoin t) (RoutesEnd t) network.streams (routes_join t) h.0;
        flows = all_of (PathJoins t) (PathEnds t) network.flows (λ f. joins t f.path) h.1;
      },
    )

abbrev Neither : Node → Type 0
Neither node = ((clock_of node.kind).deviation_ppm ≡ 0) × ((clock_of node.kind).step_ps ≡ 0)

abbrev GoesIdeally : Node → Type 0
GoesIdeally node = clock_of node.kind ≡ ideal

neither : (node : Node) → GoesIdeally node → Neither node
neither node same = (
  ap (λ (c : DeclaredClock). c.deviation_ppm) same,
  ap (λ (c : DeclaredClock). c.step_ps) same,
)

goes_ideally : (node : Node) → Neither node → GoesIdeally node
goes_ideally node none =
    ap (λ (n : ℕ). declared_clock n (clock_of node.kind).step_ps) none.0 ∙ ap (λ (n : ℕ). declared_clock 0 n) none.1

identified : (streams : List DeclaredStream) → AreIdentified streams ↔ HaveOwnIdentities streams
identified streams = (
  λ apart i j one other before here there address vlan first second.
      apart i j one before (slice_get_within streams j other there) (address, vlan) (record {
        one = ap (λ (s : DeclaredStream). s.identity) (get_or_from_slice_get streams i one one here) ∙ first;
        other = ap (λ (s : DeclaredStream). s.identity) (get_or_from_slice_get streams j other one there) ∙ second;
      }),
  λ own i j d before within identity share.
      own i j (get_or streams i d) (get_or streams j d) before (slice_get-get_or streams i d (omega arith))
      (slice_get-get_or streams j d within) identity.0 identity.1 share.one share.other,
)

-- a node and a link of a network
node_is : (network : DeclaredNetwork) → IsNetwork network
    → (node : Node) → Contains network.topology.nodes node → IsNode node
node_is network is node among = All-contains IsNode network.topology.nodes node is.topology.each_node among

link_is : (network : DeclaredNetwork) → IsNetwork network
    → (link : Link) → Contains network.topology.links link → IsLink network.topology.nodes link
link_is network is link among =
    All-contains (IsLink network.topology.nodes) network.topology.links link is.topology.each_link among

limits : (network : DeclaredNetwork) → IsNetwork network → IsWithinLimits network
limits network is = record {
  few_nodes = is.topology.few_nodes;
  few_links = is.topology.few_links;
  processing = λ node among.
      let kept : IsNode node = node_is network is node among in
      (kept.ordered, kept.processing);
  residences = λ node among. (node_is network is node among).residence;
  clocks = λ node among.
      let kept : IsNode node = node_is network is node among in
      (kept.clock.deviation, kept.clock.step);
  propagation = λ link among. (link_is network is link among).propagation;
  few_streams = is.few_streams;
  few_ports = is.few_ports;
  few_flows = is.few_flows;
  most_ports = is.most_ports;
  deadlines = λ s among.
      let kept : IsStream s = All-contains IsStream network.streams s is.streams among in
      (kept.deadline.positive, kept.deadline.most);
  identities = λ s among address vlan given.
      let kept : IsStream s = All-contains IsStream network.streams s is.streams among in
      let one : IsIdentity address vlan = kept.identity (address, vlan) given in
      (one.within, (one.least, one.most));
}

pub networks_are_meant : NetworksAreMeant
networks_are_meant = record {
  stations = record {
    begin = λ network. (
      λ h i within. one_of network.topology _ (h i within),
      λ h i within. station network.topology _ (h i within),
    );
    join = join;
    clocks = λ topology. (
      each_of GoesIdeally Neither topology.nodes neither,
      all_of GoesIdeally Neither topology.nodes goes_ideally,
    );
    before_format_3 = ideal_before;
  };
  rules = record {
    limits = limits;
    own = λ network is. (identified network.streams).0 is.identities;
    identified = identified;
    deadline = λ deadline_ns. (λ is. (is.positive, is.most), λ is. record { positive = is.0; most = is.1 });
    identity = λ address vlan. (
      λ is. (is.within, (is.least, is.most)),
      λ is. record { within = is.0; least = is.1.0; most = is.1.1 },
    );
  };
}
