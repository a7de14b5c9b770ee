use Rattle.std.proofs.Common.{◌≡◌, ◌≢◌, ℕ, ◌+◌, ◌<◌, ◌≤◌, Bool, true, false, ◌&&◌, ◌||◌, List, [], ◌∷◌, length, sym}
use Rattle.std.proofs.Common.{ap, get_or, refl, ◌∙◌, Option, Some, None, arith, inl, inr}
use Rattle.std.specs.Prelude.{nat_le, nat_lt, not, ◌==◌, is_none, slice_index_or, AllPairs}
use Rattle.std.specs.List.{All, list_all}
use Rattle.std.proofs.lemmas.Bool.{and_parts, false≢true, true≢false, eq-eqb, not-true, or_cases}
use Rattle.std.proofs.lemmas.Option.{none-some}
use Rattle.ats_num.specs.Places.{place_of}
use Rattle.ats_num.specs.Wire.{bits_of}
use Rattle.ats_num.specs.declared.rate.TheConstants.{MAX_BPS, MAX_BURST_BITS}
use Rattle.ats_num.specs.declared.wire.TheConstants.{MIN_OCTETS, MAX_OCTETS}
use Rattle.ats_topology.specs.Faults.{topology_fault}
use Rattle.ats_topology.specs.Node.{is_station}
use Rattle.ats_topology.specs.Port.{port_at}
use Rattle.ats_topology.specs.Topology.{DeclaredTopology, IsTopology, topology_of, node_at, IsStationAt}
use Rattle.ats_topology.specs.Walks.{IsWalk}
use Rattle.ats_topology.specs.declared.node.Node.{Node}
use Rattle.ats_topology.specs.declared.link.Link.{Link}
use Rattle.ats_topology.specs.declared.port.Port.{Port}
use Rattle.ats_topology.proofs.Rules.{topology_rules}
use Rattle.ats_streams.specs.Branches.{AreBranches, Ascend, BeginEarlier, BeginsEarlier, leg_at, legs_of, no_branch}
use Rattle.ats_streams.specs.Branches.{routes_of}
use Rattle.ats_streams.specs.Rules.{KeepsRules}
use Rattle.ats_streams.specs.Path.{IsPath}
use Rattle.ats_streams.specs.Stream.{DeclaredStream, IsClass, IsStream}
use Rattle.ats_streams.specs.Flow.{DeclaredFlow, IsFlow}
use Rattle.ats_streams.specs.declared.branch.Branch.{Branch}
use Rattle.ats_streams.specs.declared.branch.TheConstants.{MAX_BRANCHES}
use Rattle.ats_streams.specs.declared.path.TheConstants.{MAX_PORTS}
use Rattle.ats_streams.specs.declared.stream.TheConstants.{MAX_CLASS, MAX_DEADLINE_NS}
use Rattle.ats_network.specs.Rates.{HasRates, is_overrated}
use Rattle.ats_network.specs.Sender.{Sender, stream_sender}
use Rattle.ats_network.proofs.Rated.{has_rates}
use Rattle.ats_network.specs.Path.{IsBranch, IsTree, IsValidPath, node_of_branch, nodes_along}
use Rattle.ats_network.specs.Network.{DeclaredNetwork, HasOneListener, HasShortPath, HasShortRoutes, IsMostPorts}
use Rattle.ats_network.specs.Network.{IsNetwork, Share, declared_network, long_network, names_of, network_within}
use Rattle.ats_network.specs.Network.{ports_together, senders_of}
use Rattle.ats_network.specs.declared.network.TheConstants.{MAX_STREAMS, MAX_FLOWS, MAX_PORTS_TOGETHER}
use Rattle.ats_examples.proofs.Tests.{le_of, lt_of, eq_of, all_by, pairs_pass, pairs_by, each_below, below_by}

-- A test of the rules of a network on closed ones, whose streams have no identity.

-- a number is between these
abbrev pub is_between : ℕ → ℕ → ℕ → Bool
is_between least most n = nat_le least n && nat_le n most

between_by : (least most n : ℕ) → is_between least most n ≡ true → (least ≤ n) × (n ≤ most)
between_by least most n h =
    let parts = and_parts (nat_le least n) (nat_le n most) h in
    (le_of least n parts.0, le_of n most parts.1)

-- a stream's rate, sizes and burst
abbrev pub keeps_rules : DeclaredStream → Bool
keeps_rules s =
    is_between 1 MAX_BPS s.rate
    && (nat_le MIN_OCTETS s.min_octets
    && (is_between s.min_octets MAX_OCTETS s.max_octets
    && is_between (bits_of s.max_octets) MAX_BURST_BITS s.burst_bits))

rules_by : (s : DeclaredStream) → keeps_rules s ≡ true → KeepsRules s.rate s.burst_bits s.min_octets s.max_octets
rules_by s h =
    let sizes : Bool = is_between s.min_octets MAX_OCTETS s.max_octets in
    let burst : Bool = is_between (bits_of s.max_octets) MAX_BURST_BITS s.burst_bits in
    let first = and_parts (is_between 1 MAX_BPS s.rate) (nat_le MIN_OCTETS s.min_octets && (sizes && burst)) h in
    let second = and_parts (nat_le MIN_OCTETS s.min_octets) (sizes && burst) first.1 in
    let third = and_parts sizes burst second.1 in
    let rate = between_by 1 MAX_BPS s.rate first.0 in
    let most = between_by s.min_octets MAX_OCTETS s.max_octets third.0 in
    let bits = between_by (bits_of s.max_octets) MAX_BURST_BITS s.burst_bits third.1 in
    record {
      rate = record { positive = rate.0; within = rate.1 };
      sizes = record { least = le_of MIN_OCTETS s.min_octets second.0; ordered = most.0; most = most.1 };
      covers = bits.0;
      burst = bits.1;
    }

-- a path's length
abbrev pub is_path : List ℕ → Bool
is_path path = is_between 1 MAX_PORTS (length path)

path_by : (path : List ℕ) → is_path path ≡ true → IsPath path
path_by path h = let parts = between_by 1 MAX_PORTS (length path) h in record { least = parts.0; most = parts.1 }

-- the places of branches ascend
abbrev pub ascends : ℕ → List Branch → ℕ → Bool
ascends at [] end = true
ascends at (b ∷ branches) end = nat_lt at b.first && (nat_lt b.first end && ascends b.first branches end)

pub ascend_by : (at : ℕ) (branches : List Branch) (end : ℕ) → ascends at branches end ≡ true → Ascend at branches end
ascend_by at [] end h = tt
ascend_by at (b ∷ branches) end h =
    let rest : Bool = ascends b.first branches end in
    let first = and_parts (nat_lt at b.first) (nat_lt b.first end && rest) h in
    let second = and_parts (nat_lt b.first end) rest first.1 in
    (lt_of at b.first first.0, lt_of b.first end second.0, ascend_by b.first branches end second.1)

-- each begins at a hop of an earlier leg that is not the first of a branch
abbrev pub begins_earlier : List (List ℕ) → ℕ → Branch → Bool
begins_earlier legs own b =
    nat_lt b.leg own && (nat_lt b.hop (length (leg_at legs b.leg)) && (nat_lt 0 b.hop || b.leg == 0))

begins_by : (legs : List (List ℕ)) (own : ℕ) (b : Branch) → begins_earlier legs own b ≡ true → BeginsEarlier legs own b
begins_by legs own b h =
    let long : ℕ = length (leg_at legs b.leg) in
    let at : Bool = nat_lt 0 b.hop || b.leg == 0 in
    let parts = and_parts (nat_lt b.leg own) (nat_lt b.hop long && at) h in
    let hop = and_parts (nat_lt b.hop long) at parts.1 in
    record {
      earlier = lt_of b.leg own parts.0;
      at_talker = λ zero. elim (or_cases (nat_lt 0 b.hop) (b.leg == 0) hop.1) as (λ _. b.leg ≡ 0) [
        | inl later ↦ absurd (omega (arith, zero, lt_of 0 b.hop later))
        | inr first ↦ eq_of b.leg 0 first
      ];
      within = lt_of b.hop long hop.0;
    }

abbrev pub begin_earlier : List (List ℕ) → ℕ → List Branch → Bool
begin_earlier legs own [] = true
begin_earlier legs own (b ∷ branches) = begins_earlier legs own b && begin_earlier legs (own + 1) branches

pub begin_by : (legs : List (List ℕ)) (own : ℕ) (branches : List Branch) → begin_earlier legs own branches ≡ true
    → BeginEarlier legs own branches
begin_by legs own [] h = tt
begin_by legs own (b ∷ branches) h =
    let parts = and_parts (begins_earlier legs own b) (begin_earlier legs (own + 1) branches) h in
    (begins_by legs own b parts.0, begin_by legs (own + 1) branches parts.1)

-- the branches of a stream with these ports
abbrev pub are_branches : List ℕ → List Branch → Bool
are_branches ports branches =
    ascends 0 branches (length ports)
    && (begin_earlier (legs_of ports branches) 1 branches && nat_le (length branches) MAX_BRANCHES)

pub branches_by : (ports : List ℕ) (branches : List Branch) → are_branches ports branches ≡ true
    → AreBranches ports branches
branches_by ports branches h =
    let begin : Bool = begin_earlier (legs_of ports branches) 1 branches in
    let few : Bool = nat_le (length branches) MAX_BRANCHES in
    let first = and_parts (ascends 0 branches (length ports)) (begin && few) h in
    let second = and_parts begin few first.1 in
    record {
      places = ascend_by 0 branches (length ports) first.0;
      begin = begin_by (legs_of ports branches) 1 branches second.0;
      few = le_of (length branches) MAX_BRANCHES second.1;
    }

-- a stream without an identity
abbrev pub is_any_stream : DeclaredStream → Bool
is_any_stream s =
    list_all (is_between 1 MAX_CLASS) s.classes
    && (length s.classes == length s.ports
    && (keeps_rules s
    && (are_branches s.ports s.branches
    && (list_all is_path (routes_of s.ports s.branches)
    && (is_between 1 MAX_DEADLINE_NS s.deadline_ns && is_none s.identity)))))

class_by : (class : ℕ) → is_between 1 MAX_CLASS class ≡ true → IsClass class
class_by class h = let parts = between_by 1 MAX_CLASS class h in record { least = parts.0; most = parts.1 }

no_identity : (identity : Option (ℕ × ℕ)) → is_none identity ≡ true → (pair : ℕ × ℕ) → identity ≡ Some pair → ⊥
no_identity None h pair given = none-some pair given
no_identity (Some other) h pair given = false≢true h

any_stream_by : (s : DeclaredStream) → is_any_stream s ≡ true → IsStream s
any_stream_by s h =
    let timed : Bool = is_between 1 MAX_DEADLINE_NS s.deadline_ns in
    let late : Bool = timed && is_none s.identity in
    let routed : Bool = list_all is_path (routes_of s.ports s.branches) in
    let legs : Bool = are_branches s.ports s.branches in
    let same : Bool = length s.classes == length s.ports in
    let first = and_parts (list_all (is_between 1 MAX_CLASS) s.classes)
    (same && (keeps_rules s && (legs && (routed && late)))) h in
    let second = and_parts same (keeps_rules s && (legs && (routed && late))) first.1 in
    let third = and_parts (keeps_rules s) (legs && (routed && late)) second.1 in
    let fourth = and_parts legs (routed && late) third.1 in
    let fifth = and_parts routed late fourth.1 in
    let sixth = and_parts timed (is_none s.identity) fifth.1 in
    let deadline = between_by 1 MAX_DEADLINE_NS s.deadline_ns sixth.0 in
    record {
      classes = all_by IsClass (is_between 1 MAX_CLASS) class_by s.classes first.0;
      each_port = eq_of (length s.classes) (length s.ports) second.0;
      rules = rules_by s third.0;
      branches = branches_by s.ports s.branches fourth.0;
      routes = all_by IsPath is_path path_by (routes_of s.ports s.branches) fifth.0;
      deadline = record { positive = deadline.0; most = deadline.1 };
      identity = λ pair given. absurd (no_identity s.identity sixth.1 pair given);
    }

-- no branches
abbrev pub is_alone : List Branch → Bool
is_alone [] = true
is_alone (b ∷ branches) = false

alone_by : (branches : List Branch) → is_alone branches ≡ true → branches ≡ []
alone_by [] h = refl
alone_by (b ∷ branches) h = absurd (false≢true h)

-- a stream with one listener and without an identity
abbrev pub is_stream : DeclaredStream → Bool
is_stream s = is_any_stream s && is_alone s.branches

pub stream_by : (s : DeclaredStream) → is_stream s ≡ true → IsStream s
stream_by s h = any_stream_by s (and_parts (is_any_stream s) (is_alone s.branches) h).0

pub one_listener_by : (s : DeclaredStream) → is_stream s ≡ true → s.branches ≡ []
one_listener_by s h = alone_by s.branches (and_parts (is_any_stream s) (is_alone s.branches) h).1

-- each stream has one listener
abbrev pub has_one_listener : DeclaredNetwork → Bool
has_one_listener network = list_all (λ (s : DeclaredStream). is_alone s.branches) network.streams

pub one_each_by : (network : DeclaredNetwork) → has_one_listener network ≡ true → HasOneListener network
one_each_by network h =
    all_by (λ (s : DeclaredStream). s.branches ≡ []) (λ (s : DeclaredStream). is_alone s.branches)
    (λ s. alone_by s.branches) network.streams h

abbrev pub is_flow : DeclaredFlow → Bool
is_flow f = is_between MIN_OCTETS MAX_OCTETS f.max_octets && is_path f.path

flow_by : (f : DeclaredFlow) → is_flow f ≡ true → IsFlow f
flow_by f h =
    let parts = and_parts (is_between MIN_OCTETS MAX_OCTETS f.max_octets) (is_path f.path) h in
    let size = between_by MIN_OCTETS MAX_OCTETS f.max_octets parts.0 in
    record { size = record { least = size.0; most = size.1 }; path = path_by f.path parts.1 }

-- a walk from a node, and where it ends
abbrev pub walks : List Port → ℕ → List ℕ → Bool
walks ports a [] = true
walks ports a (p ∷ path) =
    nat_lt p (length ports) && ((port_at ports p).from == a && walks ports (port_at ports p).to path)

abbrev pub end_along : List Port → ℕ → List ℕ → ℕ
end_along ports a [] = a
end_along ports a (p ∷ path) = end_along ports (port_at ports p).to path

walk_by : (ports : List Port) (a : ℕ) (path : List ℕ) → walks ports a path ≡ true
    → IsWalk ports a (end_along ports a path) path
walk_by ports a [] h = refl
walk_by ports a (p ∷ path) h =
    let on : Bool = walks ports (port_at ports p).to path in
    let first = and_parts (nat_lt p (length ports)) ((port_at ports p).from == a && on) h in
    let second = and_parts ((port_at ports p).from == a) on first.1 in (
      record { within = lt_of p (length ports) first.0; from = eq_of (port_at ports p).from a second.0 },
      walk_by ports (port_at ports p).to path second.1,
    )

abbrev pub is_station_at : DeclaredTopology → ℕ → Bool
is_station_at t node = nat_lt node (length t.nodes) && is_station (node_at t.nodes node).kind

pub station_by : (t : DeclaredTopology) (node : ℕ) → is_station_at t node ≡ true → IsStationAt t node
station_by t node h =
    let parts = and_parts (nat_lt node (length t.nodes)) (is_station (node_at t.nodes node).kind) h in
    record { within = lt_of node (length t.nodes) parts.0; station = parts.1 }

pub apart_by : (a b : ℕ) → not (a == b) ≡ true → a ≢ b
apart_by a b h same = true≢false (sym (eq-eqb a b same) ∙ not-true (a == b) h)

-- a path from the node that its first port leaves
abbrev pub starts_at : List Port → List ℕ → ℕ
starts_at ports [] = 0
starts_at ports (p ∷ path) = (port_at ports p).from

abbrev pub is_valid_from : DeclaredTopology → ℕ → List ℕ → Bool
is_valid_from t a path =
    walks t.ports a path
    && (nat_le 1 (length path) && pairs_pass (λ a b. not (a == b)) (nodes_along t.ports path))

pub valid_from_by : (t : DeclaredTopology) (a : ℕ) (path : List ℕ) → is_valid_from t a path ≡ true → IsValidPath t path
valid_from_by t a path h =
    let once : Bool = pairs_pass (λ a b. not (a == b)) (nodes_along t.ports path) in
    let first = and_parts (walks t.ports a path) (nat_le 1 (length path) && once) h in
    let second = and_parts (nat_le 1 (length path)) once first.1 in
    record {
      talker = a;
      listener = end_along t.ports a path;
      some = le_of 1 (length path) second.0;
      walk = walk_by t.ports a path first.0;
      apart = pairs_by (λ a b. a ≢ b) (λ a b. not (a == b)) apart_by (nodes_along t.ports path) second.1;
    }

pub valid_by : (t : DeclaredTopology) (path : List ℕ) → is_valid_from t (starts_at t.ports path) path ≡ true
    → IsValidPath t path
valid_by t path = valid_from_by t (starts_at t.ports path) path

-- a branch leads on from the node where it begins
abbrev pub is_branch : DeclaredTopology → List (List ℕ) → Branch → List ℕ → Bool
is_branch t legs b path = walks t.ports (node_of_branch t.ports legs b) path

branch_by : (t : DeclaredTopology) (legs : List (List ℕ)) (b : Branch) (path : List ℕ) → is_branch t legs b path ≡ true
    → IsBranch t legs b path
branch_by t legs b path h =
    let node : ℕ = node_of_branch t.ports legs b in
    record { listener = end_along t.ports node path; walk = walk_by t.ports node path h }

abbrev pub branch_leads : DeclaredTopology → List ℕ → List Branch → ℕ → Bool
branch_leads t ports branches n = is_branch t (legs_of ports branches) (slice_index_or branches n no_branch)
    (leg_at (legs_of ports branches) (1 + n))

abbrev pub branches_lead : DeclaredTopology → List ℕ → List Branch → Bool
branches_lead t ports branches = each_below (branch_leads t ports branches) (length branches)

pub lead_by : (t : DeclaredTopology) (ports : List ℕ) (branches : List Branch) → branches_lead t ports branches ≡ true
    → (n : ℕ) → n < length branches → IsBranch t (legs_of ports branches) (slice_index_or branches n no_branch)
    (leg_at (legs_of ports branches) (1 + n))
lead_by t ports branches h n within =
    branch_by t (legs_of ports branches) (slice_index_or branches n no_branch)
    (leg_at (legs_of ports branches) (1 + n))
    (below_by (branch_leads t ports branches) (length branches) h n within)

-- no node occurs twice
abbrev pub are_apart : DeclaredTopology → List ℕ → Bool
are_apart t ports = pairs_pass (λ a b. not (a == b)) (nodes_along t.ports ports)

pub nodes_apart_by : (t : DeclaredTopology) (ports : List ℕ) → are_apart t ports ≡ true
    → AllPairs (λ a b. a ≢ b) (nodes_along t.ports ports)
nodes_apart_by t ports h =
    pairs_by (λ a b. a ≢ b) (λ a b. not (a == b)) apart_by (nodes_along t.ports ports) h

-- the trunk is a valid path, the branches lead on, and no node occurs twice
abbrev pub has_trunk : DeclaredTopology → List ℕ → List Branch → Bool
has_trunk t ports branches =
    is_valid_from t (starts_at t.ports (leg_at (legs_of ports branches) 0)) (leg_at (legs_of ports branches) 0)

abbrev pub is_tree : DeclaredTopology → Sender → Bool
is_tree t s =
    has_trunk t s.ports s.branches && (branches_lead t s.ports s.branches && are_apart t s.ports)

tree_by : (t : DeclaredTopology) (s : Sender) → is_tree t s ≡ true → IsTree t s.ports s.branches
tree_by t s h =
    let lead : Bool = branches_lead t s.ports s.branches in
    let first = and_parts (has_trunk t s.ports s.branches) (lead && are_apart t s.ports) h in
    let second = and_parts lead (are_apart t s.ports) first.1 in
    record {
      trunk = valid_by t (leg_at (legs_of s.ports s.branches) 0) first.0;
      each = lead_by t s.ports s.branches second.0;
      apart = nodes_apart_by t s.ports second.1;
    }

-- each name is found at its place
abbrev pub is_place : Option ℕ → ℕ → Bool
is_place None n = false
is_place (Some m) n = m == n

place_by : (found : Option ℕ) (n : ℕ) → is_place found n ≡ true → found ≡ Some n
place_by None n h = absurd (false≢true h)
place_by (Some m) n h = ap (λ (k : ℕ). Some k) (eq_of m n h)

abbrev pub is_found : List (List ℕ) → ℕ → Bool
is_found names n = is_place (place_of (slice_index_or names n []) names) n

-- the first of two streams has no identity
abbrev pub has_none : DeclaredStream → DeclaredStream → Bool
has_none s other = is_none s.identity

own_by : (s other : DeclaredStream) → has_none s other ≡ true → (identity : ℕ × ℕ) → ¬ Share s other identity
own_by s other h identity shared = no_identity s.identity h identity shared.one

-- no route has more ports than this
abbrev pub has_short_routes : ℕ → DeclaredStream → Bool
has_short_routes most s = list_all (λ (route : List ℕ). nat_le (length route) most) (routes_of s.ports s.branches)

short_routes_by : (most : ℕ) (s : DeclaredStream) → has_short_routes most s ≡ true → HasShortRoutes most s
short_routes_by most s h =
    all_by (λ (route : List ℕ). length route ≤ most) (λ (route : List ℕ). nat_le (length route) most)
    (λ route. le_of (length route) most) (routes_of s.ports s.branches) h

abbrev pub has_short_path : ℕ → DeclaredFlow → Bool
has_short_path most f = nat_le (length f.path) most

short_path_by : (most : ℕ) (f : DeclaredFlow) → has_short_path most f ≡ true → HasShortPath most f
short_path_by most f h = le_of (length f.path) most h

abbrev pub are_short : DeclaredNetwork → Bool
are_short network =
    list_all (has_short_routes network.most_ports) network.streams
    && list_all (has_short_path network.most_ports) network.flows

-- no rate and no burst of a stream is over the limits of a scheduler at one of its ports
abbrev pub is_rated : DeclaredTopology → DeclaredStream → Bool
is_rated t s = not (is_overrated t (stream_sender s))

rated_by : (t : DeclaredTopology) (streams : List DeclaredStream) → IsTopology t → All IsStream streams
    → list_all (is_rated t) streams ≡ true → All (HasRates t) streams
rated_by t streams is keep h k d within =
    let s : DeclaredStream = get_or streams k d in
    has_rates t s is (keep k d within).rules.rate.positive
    (all_by (λ (s : DeclaredStream). is_overrated t (stream_sender s) ≡ false) (is_rated t)
    (λ s rated. not-true (is_overrated t (stream_sender s)) rated) streams h k d within)

-- the streams, the flows, their ports and names
abbrev pub network_passes : DeclaredNetwork → Bool
network_passes network =
    list_all is_any_stream network.streams
    && (list_all is_flow network.flows
    && (list_all (is_tree network.topology) (senders_of network)
    && (each_below (is_found (names_of (senders_of network))) (length (names_of (senders_of network)))
    && (pairs_pass has_none network.streams
    && (nat_le (length network.streams) MAX_STREAMS
    && (nat_le (length network.flows) MAX_FLOWS
    && (nat_le (ports_together network.streams) MAX_PORTS_TOGETHER
    && (are_short network && list_all (is_rated network.topology) network.streams))))))))

pub network_by_most : (most : ℕ) (nodes : List Node) (links : List Link) (streams : List DeclaredStream)
    (flows : List DeclaredFlow) → IsMostPorts most → topology_fault nodes links ≡ None
    → network_passes (network_within (topology_of nodes links) most streams flows) ≡ true
    → IsNetwork (network_within (topology_of nodes links) most streams flows)
network_by_most most nodes links streams flows of sound h =
    let network : DeclaredNetwork = network_within (topology_of nodes links) most streams flows in
    let names : List (List ℕ) = names_of (senders_of network) in
    let rated : Bool = list_all (is_rated network.topology) streams in
    let ports : Bool = nat_le (ports_together streams) MAX_PORTS_TOGETHER && (are_short network && rated) in
    let last : Bool = nat_le (length flows) MAX_FLOWS && ports in
    let few : Bool = pairs_pass has_none streams && (nat_le (length streams) MAX_STREAMS && last) in
    let found : Bool = each_below (is_found names) (length names) in
    let trees : Bool = list_all (is_tree network.topology) (senders_of network) in
    let first = and_parts (list_all is_any_stream streams) (list_all is_flow flows && (trees && (found && few))) h in
    let second = and_parts (list_all is_flow flows) (trees && (found && few)) first.1 in
    let third = and_parts trees (found && few) second.1 in
    let fourth = and_parts found few third.1 in
    let fifth = and_parts (pairs_pass has_none streams) (nat_le (length streams) MAX_STREAMS && last) fourth.1 in
    let sixth = and_parts (nat_le (length streams) MAX_STREAMS) last fifth.1 in
    let seventh = and_parts (nat_le (length flows) MAX_FLOWS) ports sixth.1 in
    let eighth = and_parts (nat_le (ports_together streams) MAX_PORTS_TOGETHER) (are_short network && rated) seventh.1
    in
    let ninth = and_parts (are_short network) rated eighth.1 in
    let tenth = and_parts (list_all (has_short_routes most) streams) (list_all (has_short_path most) flows) ninth.0 in
    let keep : All IsStream streams = all_by IsStream is_any_stream any_stream_by streams first.0 in
    record {
      topology = topology_rules nodes links sound;
      streams = keep;
      flows = all_by IsFlow is_flow flow_by flows second.0;
      trees = all_by (λ (s : Sender). IsTree network.topology s.ports s.branches) (is_tree network.topology)
          (tree_by network.topology) (senders_of network) third.0;
      names = λ n within. place_by (place_of (slice_index_or names n []) names) n
          (below_by (is_found names) (length names) fourth.0 n within);
      identities = pairs_by (λ (s t : DeclaredStream). (identity : ℕ × ℕ) → ¬ Share s t identity) has_none own_by
          streams fifth.0;
      few_streams = le_of (length streams) MAX_STREAMS sixth.0;
      few_flows = le_of (length flows) MAX_FLOWS seventh.0;
      few_ports = le_of (ports_together streams) MAX_PORTS_TOGETHER eighth.0;
      most_ports = of;
      short_streams = all_by (HasShortRoutes most) (has_short_routes most) (short_routes_by most) streams tenth.0;
      short_flows = all_by (HasShortPath most) (has_short_path most) (short_path_by most) flows tenth.1;
      rates = rated_by network.topology streams (topology_rules nodes links sound) keep ninth.1;
    }

-- so are those with short routes, and with long ones
pub network_by : (nodes : List Node) (links : List Link) (streams : List DeclaredStream) (flows : List DeclaredFlow)
    → topology_fault nodes links ≡ None
    → network_passes (declared_network (topology_of nodes links) streams flows) ≡ true
    → IsNetwork (declared_network (topology_of nodes links) streams flows)
network_by nodes links streams flows = network_by_most 16 nodes links streams flows (inl refl)

pub long_network_by : (nodes : List Node) (links : List Link) (streams : List DeclaredStream)
    (flows : List DeclaredFlow) → topology_fault nodes links ≡ None
    → network_passes (long_network (topology_of nodes links) streams flows) ≡ true
    → IsNetwork (long_network (topology_of nodes links) streams flows)
long_network_by nodes links streams flows = network_by_most 64 nodes links streams flows (inr refl)
