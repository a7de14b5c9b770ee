use Rattle.std.proofs.Common.{◌≡◌, ◌≢◌, ℕ, ◌-◌, ◌<◌, ◌≤◌, List, [], ◌∷◌, map, length, get_or, refl, sym, ap, subst}
use Rattle.std.proofs.Common.{◌∙◌, arith}
use Rattle.std.proofs.Common.{length-append}
use Rattle.std.specs.List.{All, AllPairs}
use Rattle.std.proofs.lemmas.List.{get_or-append_right, get_or-map, length-map}
use Rattle.std.proofs.lemmas.List.Elements.{All-nil, All-cons, All-head, All-map, All-tail, All-append, All-weaker}
use Rattle.ats_facts.proofs.Lists.{all_left, all_right, pairs_tail}
use Rattle.ats_streams.specs.Rules.{AreSizes, KeepsRules}
use Rattle.ats_streams.proofs.OneListener.{alone_path, no_branches}
use Rattle.ats_streams.specs.Branches.{AreBranches, AreShort, routes_of}
use Rattle.ats_streams.specs.declared.branch.Branch.{Branch}
use Rattle.ats_streams.specs.Path.{IsPath}
use Rattle.ats_streams.specs.Stream.{DeclaredStream, IsStream, IsClass}
use Rattle.ats_streams.specs.Flow.{DeclaredFlow, IsFlow}
use Rattle.ats_streams.specs.declared.stream.TheConstants.{MAX_CLASS}
use Rattle.ats_topology.specs.Port.{port_at}
use Rattle.ats_topology.specs.Topology.{DeclaredTopology, IsTopology}
use Rattle.ats_network.specs.Sender.{Sender, stream_sender, flow_sender}
use Rattle.ats_network.specs.Class.{class_at}
use Rattle.ats_network.specs.Path.{IsTree, IsValidPath, nodes_along}
use Rattle.ats_network.specs.Rates.{HasRates, IsRated}
use Rattle.ats_network.specs.Network.{DeclaredNetwork, IsNetwork, HasOneListener, HasShortPath, senders_of}
use Rattle.ats_network.specs.Bridges.{MeetAtBridge}
use Rattle.ats_network.specs.Senders.{AllNeighbours, IsSender, HasPath, sender_at, no_sender}
use Rattle.ats_network.specs.Laws.{EachIsSender, EachRouteIsShort, EachSenderHasPath}
use Rattle.ats_network.proofs.ClassLemmas.{class_at-flow}
use Rattle.ats_network.proofs.PathLemmas.{nodes_to}
use Rattle.ats_network.proofs.Rated.{stream_rated}
use Rattle.ats_network.proofs.BridgeLemmas.{meet_at_bridges}
use Rattle.ats_network.proofs.TreeLemmas.{path_of_tree, tree_ports}
use Rattle.ats_network.proofs.ValidRoutes.{each_route_is_a_path}

-- numbers with different values are different
pairs_unmap : (f : ℕ → ℕ) (xs : List ℕ) → AllPairs (λ a b. a ≢ b) (map f xs) → AllPairs (λ a b. a ≢ b) xs
pairs_unmap f xs pairs i j d below within same =
    pairs i j (f d) below (omega (arith, length-map xs f))
    (get_or-map f xs i d (f d) (omega arith) ∙ ap f same ∙ sym (get_or-map f xs j d (f d) within))

-- ports along which no node occurs twice are different
pub ports_apart : (topology : DeclaredTopology) (ports : List ℕ)
    → AllPairs (λ m n. m ≢ n) (nodes_along topology.ports ports) → AllPairs (λ p q. p ≢ q) ports
ports_apart topology [] apart = λ i j d below within. absurd (omega arith)
ports_apart topology (p ∷ ports) apart =
    pairs_unmap (λ q. (port_at topology.ports q).to) (p ∷ ports)
    (pairs_tail (λ m n. m ≢ n) (port_at topology.ports p).from (nodes_to topology.ports (p ∷ ports)) apart)

-- the ports of each of these paths meet at bridges
routes_meet : (topology : DeclaredTopology) (routes : List (List ℕ)) → IsTopology topology
    → All (IsValidPath topology) routes → All (AllNeighbours (MeetAtBridge topology)) routes
routes_meet topology routes is valid =
    All-weaker (IsValidPath topology) (AllNeighbours (MeetAtBridge topology))
    (λ route h. meet_at_bridges topology route is h) routes valid

is_sender : (topology : DeclaredTopology) (s : Sender) → IsTopology topology
    → AreBranches s.ports s.branches → All IsPath (routes_of s.ports s.branches)
    → IsTree topology s.ports s.branches → length s.classes ≡ length s.ports
    → All (λ class. class ≤ MAX_CLASS) s.classes → AreSizes s.min_octets s.max_octets
    → ((port : ℕ) → 1 ≤ class_at s port → KeepsRules s.rate s.burst_bits s.min_octets s.max_octets)
    → ((port : ℕ) → 1 ≤ class_at s port → IsRated topology s port) → IsSender topology s
is_sender topology s is branches routes tree each_port classes sizes shaped rated = record {
  branches = branches;
  routes = routes;
  tree = tree;
  ports = tree_ports topology s.ports s.branches branches tree;
  apart = ports_apart topology s.ports tree.apart;
  valid = valid;
  bridges = routes_meet topology (routes_of s.ports s.branches) is valid;
  each_port = each_port;
  classes = classes;
  sizes = sizes;
  shaped = shaped;
  rated = rated;
}
  where
    valid : All (IsValidPath topology) (routes_of s.ports s.branches)
    valid = each_route_is_a_path topology s.ports s.branches branches tree

streams_are : (topology : DeclaredTopology) (streams : List DeclaredStream) → IsTopology topology
    → All IsStream streams → All (λ (s : Sender). IsTree topology s.ports s.branches) (map stream_sender streams)
    → All (HasRates topology) streams → All (IsSender topology) (map stream_sender streams)
streams_are topology [] is keep trees rates = All-nil (IsSender topology)
streams_are topology (s ∷ streams) is keep trees rates =
    let rules : IsStream s = All-head IsStream s streams keep in
    All-cons (IsSender topology) (stream_sender s) (map stream_sender streams)
    (is_sender topology (stream_sender s) is rules.branches rules.routes
    (All-head (λ (s : Sender). IsTree topology s.ports s.branches) (stream_sender s) (map stream_sender streams) trees)
    rules.each_port
    (All-weaker IsClass (λ class. class ≤ MAX_CLASS) (λ class h. h.most) s.classes rules.classes)
    rules.rules.sizes (λ port _. rules.rules)
    (stream_rated topology s (All-head (HasRates topology) s streams rates)))
    (streams_are topology streams is (All-tail IsStream s streams keep)
    (All-tail (λ (s : Sender). IsTree topology s.ports s.branches) (stream_sender s) (map stream_sender streams) trees)
    (All-tail (HasRates topology) s streams rates))

no_classes : (path : List ℕ) → All (λ class. class ≤ MAX_CLASS) (map (λ port. 0) path)
no_classes [] = All-nil (λ class. class ≤ MAX_CLASS)
no_classes (p ∷ path) =
    All-cons (λ class. class ≤ MAX_CLASS) 0 (map (λ port. 0) path) (omega arith) (no_classes path)

no_class : (f : DeclaredFlow) (port : ℕ) → 1 ≤ class_at (flow_sender f) port → ⊥
no_class f port positive = let none : class_at (flow_sender f) port ≡ 0 = class_at-flow f port in omega (arith, none)

flows_are : (topology : DeclaredTopology) (flows : List DeclaredFlow) → IsTopology topology
    → All IsFlow flows → All (λ (s : Sender). IsTree topology s.ports s.branches) (map flow_sender flows)
    → All (IsSender topology) (map flow_sender flows)
flows_are topology [] is keep trees = All-nil (IsSender topology)
flows_are topology (f ∷ flows) is keep trees =
    let rules : IsFlow f = All-head IsFlow f flows keep in
    All-cons (IsSender topology) (flow_sender f) (map flow_sender flows)
    (is_sender topology (flow_sender f) is (no_branches f.path)
    (All-cons IsPath f.path [] rules.path (All-nil IsPath))
    (All-head (λ (s : Sender). IsTree topology s.ports s.branches) (flow_sender f) (map flow_sender flows) trees)
    (length-map f.path (λ port. 0)) (no_classes f.path)
    (record { least = omega arith; ordered = rules.size.least; most = rules.size.most })
    (λ port positive. absurd (no_class f port positive)) (λ port positive. absurd (no_class f port positive)))
    (flows_are topology flows is (All-tail IsFlow f flows keep)
    (All-tail (λ (s : Sender). IsTree topology s.ports s.branches) (flow_sender f) (map flow_sender flows) trees))

pub each_is_sender : EachIsSender
each_is_sender network is =
    let Goes : Sender → Type 0 = λ s. IsTree network.topology s.ports s.branches in
    let streams : List Sender = map stream_sender network.streams in
    let flows : List Sender = map flow_sender network.flows in
    All-append (IsSender network.topology) streams flows
    (streams_are network.topology network.streams is.topology is.streams
    (all_left Goes streams flows is.trees) is.rates)
    (flows_are network.topology network.flows is.topology is.flows (all_right Goes streams flows is.trees))

-- a sender with one listener goes along a path
pub has_path : (topology : DeclaredTopology) (s : Sender) → IsTopology topology → IsSender topology s → s.branches ≡ []
    → HasPath topology s
has_path topology s is sender alone = record {
  one_listener = alone;
  path = alone_path s.ports s.branches alone sender.routes;
  valid = valid;
  bridges = meet_at_bridges topology s.ports is valid;
}
  where
    valid : IsValidPath topology s.ports
    valid = path_of_tree topology s.ports s.branches alone sender.tree

streams_alone : (streams : List DeclaredStream) → All (λ (s : DeclaredStream). s.branches ≡ []) streams
    → All (λ (s : Sender). s.branches ≡ []) (map stream_sender streams)
streams_alone [] alone = All-nil (λ (s : Sender). s.branches ≡ [])
streams_alone (s ∷ streams) alone =
    All-cons (λ (s : Sender). s.branches ≡ []) (stream_sender s) (map stream_sender streams)
    (All-head (λ (s : DeclaredStream). s.branches ≡ []) s streams alone)
    (streams_alone streams (All-tail (λ (s : DeclaredStream). s.branches ≡ []) s streams alone))

flows_alone : (flows : List DeclaredFlow) → All (λ (s : Sender). s.branches ≡ []) (map flow_sender flows)
flows_alone [] = All-nil (λ (s : Sender). s.branches ≡ [])
flows_alone (f ∷ flows) =
    All-cons (λ (s : Sender). s.branches ≡ []) (flow_sender f) (map flow_sender flows) refl (flows_alone flows)

-- where each stream has one listener, each sender has one
pub senders_alone : (network : DeclaredNetwork) → HasOneListener network
    → All (λ (s : Sender). s.branches ≡ []) (senders_of network)
senders_alone network alone =
    All-append (λ (s : Sender). s.branches ≡ []) (map stream_sender network.streams) (map flow_sender network.flows)
    (streams_alone network.streams alone) (flows_alone network.flows)

-- no route of a sender has more ports than its network allows
pub each_route_is_short : EachRouteIsShort
each_route_is_short network is =
    let Short : Sender → Type 0 = λ s. AreShort network.most_ports (routes_of s.ports s.branches) in
    let short : List ℕ → Type 0 = λ route. length route ≤ network.most_ports in
    All-append Short (map stream_sender network.streams) (map flow_sender network.flows)
    (All-map Short stream_sender network.streams is.short_streams)
    (All-map Short flow_sender network.flows
    (All-weaker (HasShortPath network.most_ports) (λ (f : DeclaredFlow). Short (flow_sender f))
    (λ f h. All-cons short f.path [] h (All-nil short)) network.flows is.short_flows))

pub each_sender_has_path : EachSenderHasPath
each_sender_has_path network is alone n d h =
    has_path network.topology (get_or (senders_of network) n d) is.topology (each_is_sender network is n d h)
    (senders_alone network alone n d h)

-- the sender with a number has a path
pub sender_path : (network : DeclaredNetwork) (n : ℕ) → IsNetwork network → HasOneListener network
    → n < length (senders_of network) → HasPath network.topology (sender_at network n)
sender_path network n is alone within = each_sender_has_path network is alone n no_sender within

-- and it has no more ports than the network allows
pub sender_short : (network : DeclaredNetwork) (n : ℕ) → IsNetwork network → HasOneListener network
    → n < length (senders_of network) → length (sender_at network n).ports ≤ network.most_ports
sender_short network n is alone within =
    let s : Sender = sender_at network n in
    let path : HasPath network.topology s = sender_path network n is alone within in
    let routes : AreShort network.most_ports (routes_of s.ports []) =
    subst (λ (b : List Branch). AreShort network.most_ports (routes_of s.ports b)) path.one_listener
    (each_route_is_short network is n no_sender within) in
    All-head (λ (route : List ℕ). length route ≤ network.most_ports) s.ports [] routes

-- the sender with a number keeps a sender's rules
pub sender_keeps : (network : DeclaredNetwork) (n : ℕ) → IsNetwork network → n < length (senders_of network)
    → IsSender network.topology (sender_at network n)
sender_keeps network n is within = each_is_sender network is n no_sender within

pub no_flow : DeclaredFlow
no_flow = record { name = []; path = []; max_octets = 0 }

-- a sender past the streams is of class 0 at each port
pub flow_class : (network : DeclaredNetwork) (n port : ℕ) → length network.streams ≤ n → n < length (senders_of network)
    → class_at (sender_at network n) port ≡ 0
flow_class network n port past within =
    let streams : List Sender = map stream_sender network.streams in
    let flows : List Sender = map flow_sender network.flows in
    let flow : DeclaredFlow = get_or network.flows (n - length network.streams) no_flow in
    let first : length streams ≡ length network.streams = length-map network.streams stream_sender in
    let second : length flows ≡ length network.flows = length-map network.flows flow_sender in
    let below : n - length network.streams < length network.flows = omega (arith, length-append streams flows) in
    ap (λ (s : Sender). class_at s port)
    (get_or-append_right streams flows (length network.streams) n no_sender first past
    ∙ get_or-map flow_sender network.flows (n - length network.streams) no_flow no_sender below)
    ∙ class_at-flow flow port
