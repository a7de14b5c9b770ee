use Rattle.std.proofs.Common.{◌≡◌, ◌≢◌, ℕ, ◌<◌, ◌≤◌, true, List, [], ◌∷◌, length, Some, refl, ap}
use Rattle.std.proofs.Common.{arith, lit<, lit≤}
use Rattle.std.specs.Prelude.{not, ◌==◌}
use Rattle.ats_topology.specs.Topology.{DeclaredTopology, IsStationAt}
use Rattle.ats_topology.specs.Walks.{IsLeastWalk, IsWalk}
use Rattle.ats_streams.specs.Branches.{Ascend, BeginEarlier, leg_at, legs_of}
use Rattle.ats_streams.specs.declared.branch.Branch.{Branch}
use Rattle.ats_network.specs.Edits.{no_stream}
use Rattle.ats_network.specs.Ends.{beginning_of}
use Rattle.ats_network.specs.Laws.{AreLeast, EndApart, MakesTree}
use Rattle.ats_network.specs.Listeners.{end_of}
use Rattle.ats_network.specs.Network.{HasOneListener, IsNetwork}
use Rattle.ats_network.specs.Path.{IsBranch, IsTree, IsValidPath}
use Rattle.ats_network.specs.Shortest.{shortest_of}
use Rattle.ats_network.proofs.EndsApart.{stations_end_apart}
use Rattle.ats_network.proofs.LeastTrees.{least_walks_make_a_tree}
use Rattle.ats_network.proofs.RouteLemmas.{shortest_least}
use Rattle.ats_tree_examples.specs.Networks.{branch, split, split_nodes, split_links, split_topology, split_and_flow}
use Rattle.ats_tree_examples.specs.Networks.{split_and_stream, split_by_class, split_ranged, split_ranged_nodes}
use Rattle.ats_tree_examples.specs.Networks.{split_and_slower, branch_ranged, branch_ranged_nodes, branch_ranged_links}
use Rattle.ats_tree_examples.specs.Networks.{by_two_streams, crossed, crossed_links, tree, tree_nodes, tree_links}
use Rattle.ats_tree_examples.specs.Networks.{tree_and_flow, tree_branches, tree_ports, ring_links, ring_topology}
use Rattle.ats_tree_examples.specs.Networks.{behind_bridge, bridge_branches}
use Rattle.ats_tree_examples.specs.Networks.{bridge_ports, from_bridge, round, turned}
use Rattle.ats_tree_examples.specs.Trees.{BeginsBadly, BranchesBeginEarlier, EachLeads, HasEmptyLeg, LeadsAstray}
use Rattle.ats_tree_examples.specs.Trees.{LeastWalksAreWorked, LongerWaysAreTrees, MeetsAgain, NodesApart}
use Rattle.ats_tree_examples.specs.Trees.{OtherWaysAreRefused}
use Rattle.ats_tree_examples.specs.Trees.{RoutesAreWorked, TreesAreNetworks, bridge_routes, on_the_way, tree_routes}
use Rattle.ats_examples.proofs.NetworkTest.{apart_by, are_apart, are_branches, ascends, ascend_by, begin_by}
use Rattle.ats_examples.proofs.NetworkTest.{begin_earlier}
use Rattle.ats_examples.proofs.NetworkTest.{branches_by, branches_lead, has_trunk, lead_by, long_network_by}
use Rattle.ats_examples.proofs.NetworkTest.{is_station_at, station_by}
use Rattle.ats_examples.proofs.NetworkTest.{is_valid_from, nodes_apart_by, one_each_by, starts_at, valid_by}
use Rattle.ats_examples.proofs.Tests.{all_by, eq_of, pairs_by}

pub split_is : IsNetwork split
split_is = long_network_by (split_nodes 1000000) split_links split.streams [] refl refl

pub split_and_flow_is : IsNetwork split_and_flow
split_and_flow_is = long_network_by (split_nodes 1000000) split_links split.streams split_and_flow.flows refl refl

pub two_streams_is : IsNetwork by_two_streams
two_streams_is = long_network_by (split_nodes 1000000) split_links by_two_streams.streams [] refl refl

pub crossed_is : IsNetwork crossed
crossed_is = long_network_by (split_nodes 11664) crossed_links crossed.streams [] refl refl

pub tree_is : IsNetwork tree
tree_is = long_network_by (tree_nodes 1000000) tree_links tree.streams [] refl refl

pub tree_and_flow_is : IsNetwork tree_and_flow
tree_and_flow_is = long_network_by (tree_nodes 0) tree_links tree.streams tree_and_flow.flows refl refl

pub from_bridge_is : IsNetwork from_bridge
from_bridge_is = long_network_by (tree_nodes 1000000) tree_links from_bridge.streams [] refl refl

behind_bridge_is : IsNetwork behind_bridge
behind_bridge_is = long_network_by (tree_nodes 1000000) tree_links behind_bridge.streams [] refl refl

pub turned_is : IsNetwork turned
turned_is = long_network_by (tree_nodes 1000000) tree_links turned.streams [] refl refl

pub round_is : IsNetwork round
round_is = long_network_by (tree_nodes 1000000) ring_links round.streams [] refl refl

pub split_and_stream_is : IsNetwork split_and_stream
split_and_stream_is = long_network_by (split_nodes 1000000) split_links split_and_stream.streams [] refl refl

pub by_class_is : IsNetwork split_by_class
by_class_is = long_network_by (split_nodes 100000) split_links split_by_class.streams [] refl refl

ranged_is : IsNetwork split_ranged
ranged_is = long_network_by split_ranged_nodes split_links split.streams [] refl refl

slower_is : IsNetwork split_and_slower
slower_is = long_network_by (split_nodes 1000000) split_links split_and_slower.streams [] refl refl

branch_ranged_is : IsNetwork branch_ranged
branch_ranged_is = long_network_by branch_ranged_nodes branch_ranged_links branch_ranged.streams [] refl refl

-- the stream of the split has a branch
not_one : ¬ HasOneListener split
not_one one =
    let none : ◌≡◌ {A = ℕ} 1 0 = ap length (one 0 no_stream (lit< tt)) in
    absurd (omega arith)

pub trees_are_networks : TreesAreNetworks
trees_are_networks = record {
  over_one = split_is;
  beside_flow = split_and_flow_is;
  with_two = two_streams_is;
  against = crossed_is;
  over_three = tree_is;
  of_a_bridge = from_bridge_is;
  behind_a_bridge = behind_bridge_is;
  with_no_stay = tree_and_flow_is;
  in_another_order = turned_is;
  beside_stream = split_and_stream_is;
  of_classes = by_class_is;
  of_ranges = ranged_is;
  beside_slower = slower_is;
  ranged_for_copies = branch_ranged_is;
  several = not_one;
  one_each = one_each_by by_two_streams refl;
}

pub routes_are_worked : RoutesAreWorked
routes_are_worked = record {
  over_one = record { legs_are = refl; leads_are = refl; routes_are = refl };
  against = record { legs_are = refl; leads_are = refl; routes_are = refl };
  over_three = record { legs_are = refl; leads_are = refl; routes_are = refl };
  names = refl;
  before = refl;
  of_a_bridge = record { legs_are = refl; leads_are = refl; routes_are = refl };
  before_of_a_bridge = refl;
  behind_the_talker = record { legs_are = refl; leads_are = refl; routes_are = refl };
  before_behind = refl;
  in_another_order = record { legs_are = refl; leads_are = refl; routes_are = refl };
  listeners = refl;
  stations = refl;
  before_turned = refl;
  classes = refl;
}

begins_badly : (ports : List ℕ) (branches : List Branch) → ascends 0 branches (length ports) ≡ true
    → ¬ BeginEarlier (legs_of ports branches) 1 branches → BeginsBadly ports branches
begins_badly ports branches places badly = record {
  places = ascend_by 0 branches (length ports) places;
  badly = badly;
  no_branches = λ are. badly are.begin;
}

has_empty_leg : (ports : List ℕ) (branches : List Branch) → begin_earlier (legs_of ports branches) 1 branches ≡ true
    → ¬ Ascend 0 branches (length ports) → HasEmptyLeg ports branches
has_empty_leg ports branches begin empty = record {
  begin = begin_by (legs_of ports branches) 1 branches begin;
  empty = empty;
  no_branches = λ are. empty are.places;
}

at_first_of_branch : ¬ BeginEarlier (legs_of tree_ports (branch 3 0 1 ∷ branch 5 1 0 ∷ [])) 1
    (branch 3 0 1 ∷ branch 5 1 0 ∷ [])
at_first_of_branch begin = let first : ◌≡◌ {A = ℕ} 1 0 = begin.1.0.at_talker refl in absurd (omega (arith, first))

behind_the_last : ¬ BeginEarlier (legs_of tree_ports (branch 3 0 3 ∷ [])) 1 (branch 3 0 3 ∷ [])
behind_the_last begin = let beyond : 3 < 3 = begin.0.within in absurd (omega arith)

at_its_own : ¬ BeginEarlier (legs_of tree_ports (branch 3 1 1 ∷ [])) 1 (branch 3 1 1 ∷ [])
at_its_own begin = let own : 1 < 1 = begin.0.earlier in absurd (omega arith)

at_a_later : ¬ BeginEarlier (legs_of tree_ports (branch 3 2 1 ∷ branch 5 0 1 ∷ [])) 1 (branch 3 2 1 ∷ branch 5 0 1 ∷ [])
at_a_later begin = let later : 2 < 1 = begin.0.earlier in absurd (omega arith)

no_port : ¬ Ascend 0 (branch 3 0 1 ∷ branch 3 0 2 ∷ []) (length tree_ports)
no_port places = let same : 3 < 3 = places.2.0 in absurd (omega arith)

no_last_port : ¬ Ascend 0 (branch 3 0 1 ∷ branch 7 0 2 ∷ []) (length tree_ports)
no_last_port places = let end : 7 < 7 = places.2.1 in absurd (omega arith)

pub branches_begin_earlier : BranchesBeginEarlier
branches_begin_earlier = record {
  well = branches_by tree_ports tree_branches refl;
  at_talker = branches_by tree_ports (branch 3 0 0 ∷ []) refl;
  at_first_of_branch = begins_badly tree_ports (branch 3 0 1 ∷ branch 5 1 0 ∷ []) refl at_first_of_branch;
  behind_the_last = begins_badly tree_ports (branch 3 0 3 ∷ []) refl behind_the_last;
  at_its_own = begins_badly tree_ports (branch 3 1 1 ∷ []) refl at_its_own;
  at_a_later = begins_badly tree_ports (branch 3 2 1 ∷ branch 5 0 1 ∷ []) refl at_a_later;
  no_port = has_empty_leg tree_ports (branch 3 0 1 ∷ branch 3 0 2 ∷ []) refl no_port;
  no_last_port = has_empty_leg tree_ports (branch 3 0 1 ∷ branch 7 0 2 ∷ []) refl no_last_port;
}

-- all but one rule of a tree by their tests
meets_again : (topology : DeclaredTopology) (ports : List ℕ) (branches : List Branch)
    → are_branches ports branches ≡ true → has_trunk topology ports branches ≡ true
    → branches_lead topology ports branches ≡ true → ¬ NodesApart topology ports → MeetsAgain topology ports branches
meets_again topology ports branches are trunk lead met = record {
  branches_are = branches_by ports branches are;
  trunk = valid_by topology (leg_at (legs_of ports branches) 0) trunk;
  each = lead_by topology ports branches lead;
  not_apart = met;
  no_tree = λ tree. met tree.apart;
}

leads_astray : (topology : DeclaredTopology) (ports : List ℕ) (branches : List Branch)
    → are_branches ports branches ≡ true → has_trunk topology ports branches ≡ true
    → are_apart topology ports ≡ true → ¬ EachLeads topology ports branches → LeadsAstray topology ports branches
leads_astray topology ports branches are trunk apart astray = record {
  branches_are = branches_by ports branches are;
  trunk = valid_by topology (leg_at (legs_of ports branches) 0) trunk;
  not_each = astray;
  apart = nodes_apart_by topology ports apart;
  no_tree = λ tree. astray tree.each;
}

-- bridge b3 is the node with number 7
second_way : ¬ NodesApart ring_topology (0 ∷ 2 ∷ 8 ∷ 10 ∷ 14 ∷ 12 ∷ [])
second_way apart = apart 3 5 0 (lit< tt) (lit< tt) refl

branches_meet : ¬ NodesApart ring_topology (0 ∷ 2 ∷ 4 ∷ 8 ∷ 10 ∷ 14 ∷ 12 ∷ [])
branches_meet apart = apart 4 6 0 (lit< tt) (lit< tt) refl

listener_twice : ¬ NodesApart split_topology (0 ∷ 2 ∷ 2 ∷ [])
listener_twice apart = apart 2 3 0 (lit< tt) (lit< tt) refl

back_to_talker : ¬ NodesApart split_topology (0 ∷ 2 ∷ 1 ∷ [])
back_to_talker apart = apart 0 3 0 (lit< tt) (lit< tt) refl

at_station : ¬ NodesApart split_topology (0 ∷ 2 ∷ 0 ∷ 4 ∷ [])
at_station apart = apart 1 3 0 (lit< tt) (lit< tt) refl

-- port 6 leaves b1, and the branch begins at b2
begins_elsewhere : ¬ EachLeads tree.topology (0 ∷ 2 ∷ 4 ∷ 6 ∷ []) (branch 3 0 2 ∷ [])
begins_elsewhere each =
    let there : IsBranch tree.topology (legs_of (0 ∷ 2 ∷ 4 ∷ 6 ∷ []) (branch 3 0 2 ∷ [])) (branch 3 0 2) (6 ∷ []) =
    each 0 (lit< tt) in
    let from : ◌≡◌ {A = ℕ} 5 6 = there.walk.0.from in
    absurd (omega arith)

pub other_ways_are_refused : OtherWaysAreRefused
other_ways_are_refused = record {
  second_way = meets_again ring_topology (0 ∷ 2 ∷ 8 ∷ 10 ∷ 14 ∷ 12 ∷ []) (branch 4 0 1 ∷ []) refl refl refl second_way;
  branches_meet = meets_again ring_topology (0 ∷ 2 ∷ 4 ∷ 8 ∷ 10 ∷ 14 ∷ 12 ∷ []) (branch 3 0 2 ∷ branch 5 0 1 ∷ [])
      refl refl refl branches_meet;
  listener_twice = meets_again split_topology (0 ∷ 2 ∷ 2 ∷ []) (branch 2 0 1 ∷ []) refl refl refl listener_twice;
  back_to_talker = meets_again split_topology (0 ∷ 2 ∷ 1 ∷ []) (branch 2 0 1 ∷ []) refl refl refl back_to_talker;
  at_station = meets_again split_topology (0 ∷ 2 ∷ 0 ∷ 4 ∷ []) (branch 2 0 0 ∷ []) refl refl refl at_station;
  begins_elsewhere = leads_astray tree.topology (0 ∷ 2 ∷ 4 ∷ 6 ∷ []) (branch 3 0 2 ∷ []) refl refl refl
      begins_elsewhere;
}

-- a tree by its tests
tree_over : (topology : DeclaredTopology) (ports : List ℕ) (branches : List Branch)
    → has_trunk topology ports branches ≡ true → branches_lead topology ports branches ≡ true
    → are_apart topology ports ≡ true → IsTree topology ports branches
tree_over topology ports branches trunk lead apart = record {
  trunk = valid_by topology (leg_at (legs_of ports branches) 0) trunk;
  each = lead_by topology ports branches lead;
  apart = nodes_apart_by topology ports apart;
}

-- the computed walks are the least, and valid
least_one : (talker l : ℕ) (route : List ℕ) → talker < 8 → shortest_of tree.topology talker l ≡ Some route
    → is_valid_from tree.topology (starts_at tree.topology.ports route) route ≡ true
    → l < 8 → IsLeastWalk tree.topology.ports talker l route × IsValidPath tree.topology route
least_one talker l route there found valid within = (
  (shortest_least tree.topology talker l tree_is.topology there within).least route found,
  valid_by tree.topology route valid,
)

least : AreLeast tree.topology 0 (1 ∷ 2 ∷ 3 ∷ 4 ∷ []) tree_routes
least = (
  one 1 _ refl refl (lit< tt),
  (one 2 _ refl refl (lit< tt), (one 3 _ refl refl (lit< tt), (one 4 _ refl refl (lit< tt), tt))),
)
  where
    one : (l : ℕ) (route : List ℕ) → shortest_of tree.topology 0 l ≡ Some route
        → is_valid_from tree.topology (starts_at tree.topology.ports route) route ≡ true
        → l < 8 → IsLeastWalk tree.topology.ports 0 l route × IsValidPath tree.topology route
    one l route found valid within = least_one 0 l route (lit< tt) found valid within

least_from_bridge : AreLeast tree.topology 6 (1 ∷ 2 ∷ 7 ∷ []) bridge_routes
least_from_bridge = (
  least_one 6 1 _ (lit< tt) refl refl (lit< tt),
  (least_one 6 2 _ (lit< tt) refl refl (lit< tt), (least_one 6 7 _ (lit< tt) refl refl (lit< tt), tt)),
)

least_passing : AreLeast tree.topology 6 (1 ∷ 5 ∷ 2 ∷ []) on_the_way
least_passing = (
  least_one 6 1 _ (lit< tt) refl refl (lit< tt),
  (least_one 6 5 _ (lit< tt) refl refl (lit< tt), (least_one 6 2 _ (lit< tt) refl refl (lit< tt), tt)),
)

-- what the law of least walks says of them
makes_from_bridge : MakesTree tree.topology bridge_routes
makes_from_bridge = record {
  ports = bridge_ports;
  branches = bridge_branches;
  are = branches_by bridge_ports bridge_branches refl;
  tree = tree_over tree.topology bridge_ports bridge_branches refl refl refl;
  routes_are = refl;
}

apart_from_bridge : EndApart tree.topology bridge_routes
apart_from_bridge = (least_walks_make_a_tree tree.topology 6 1 (2 ∷ 7 ∷ []) (4 ∷ []) ((3 ∷ 6 ∷ []) ∷ (8 ∷ []) ∷ [])
    least_from_bridge (lit≤ tt)).0 makes_from_bridge

-- b1 is node 5, the second along the way to s3
not_apart : ¬ EndApart tree.topology on_the_way
not_apart apart = apart 1 2 (lit< tt) (lit< tt) (λ same. absurd (omega (arith, same))) 1 0 (lit< tt) refl

no_tree : ¬ MakesTree tree.topology on_the_way
no_tree makes = not_apart ((least_walks_make_a_tree tree.topology 6 1 (5 ∷ 2 ∷ []) (4 ∷ [])
    ((3 ∷ []) ∷ (3 ∷ 6 ∷ []) ∷ []) least_passing (lit≤ tt)).0 makes)

-- their ends are four stations
ends_apart : EndApart tree.topology tree_routes
ends_apart =
    stations_end_apart tree.topology 0 tree_routes tree_is.topology
    (all_by (IsValidPath tree.topology)
    (λ route. is_valid_from tree.topology (starts_at tree.topology.ports route) route) (valid_by tree.topology)
    tree_routes refl)
    (all_by (λ route. beginning_of tree.topology.ports route ≡ 0) (λ route. beginning_of tree.topology.ports route == 0)
    (λ route h. eq_of (beginning_of tree.topology.ports route) 0 h) tree_routes refl)
    (all_by (λ route. IsStationAt tree.topology (end_of tree.topology.ports route))
    (λ route. is_station_at tree.topology (end_of tree.topology.ports route))
    (λ route h. station_by tree.topology (end_of tree.topology.ports route) h) tree_routes refl)
    (pairs_by (λ p q. end_of tree.topology.ports p ≢ end_of tree.topology.ports q)
    (λ p q. not (end_of tree.topology.ports p == end_of tree.topology.ports q))
    (λ p q h. apart_by (end_of tree.topology.ports p) (end_of tree.topology.ports q) h) tree_routes refl)

pub least_walks_are_worked : LeastWalksAreWorked
least_walks_are_worked = record {
  walks = refl;
  least = least;
  makes = (least_walks_make_a_tree tree.topology 0 1 (2 ∷ 3 ∷ 4 ∷ []) (0 ∷ 2 ∷ 4 ∷ [])
      ((0 ∷ 6 ∷ []) ∷ (0 ∷ 2 ∷ 8 ∷ 10 ∷ []) ∷ (0 ∷ 2 ∷ 8 ∷ 12 ∷ []) ∷ []) least (lit≤ tt)).1 ends_apart;
  from_bridge = refl;
  least_from_bridge = least_from_bridge;
  apart_from_bridge = apart_from_bridge;
  makes_from_bridge = makes_from_bridge;
  passing = refl;
  least_passing = least_passing;
  not_apart = not_apart;
  no_tree = no_tree;
}

-- the eighth link makes a walk of three ports
shorter : IsWalk ring_topology.ports 0 3 (0 ∷ 14 ∷ 10 ∷ [])
shorter = (
  record { within = lit< tt; from = refl },
  (record { within = lit< tt; from = refl }, (record { within = lit< tt; from = refl }, refl)),
)

not_least : ¬ IsLeastWalk ring_topology.ports 0 3 (0 ∷ 2 ∷ 8 ∷ 10 ∷ [])
not_least h = let more : 4 ≤ 3 = h.least (0 ∷ 14 ∷ 10 ∷ []) shorter in absurd (omega arith)

pub longer_ways_are_trees : LongerWaysAreTrees
longer_ways_are_trees = record {
  rules = round_is;
  around = tree_over ring_topology (0 ∷ 2 ∷ 4 ∷ 8 ∷ 10 ∷ []) (branch 3 0 2 ∷ []) refl refl refl;
  ends_at_bridge = tree_over tree.topology (0 ∷ 2 ∷ 4 ∷ 8 ∷ []) (branch 3 0 2 ∷ []) refl refl refl;
  begins_at_bridge = tree_over tree.topology (2 ∷ 4 ∷ 8 ∷ 10 ∷ []) (branch 2 0 1 ∷ []) refl refl refl;
  branches_at_bridge = tree_over tree.topology bridge_ports bridge_branches refl refl refl;
  routes = refl;
  shorter = shorter;
  computed = refl;
  not_least = not_least;
}
