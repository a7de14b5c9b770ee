use Rattle.std.specs.Prelude.{◌≡◌, ◌≢◌, ℕ, ◌+◌, ◌<◌, List, [], ◌∷◌, length, map, codes, Option, Some, None, AllPairs}
use Rattle.std.specs.Prelude.{slice_index_or}
use Rattle.ats_topology.specs.Topology.{DeclaredTopology}
use Rattle.ats_topology.specs.Walks.{IsLeastWalk, IsWalk}
use Rattle.ats_streams.specs.Branches.{AreBranches, Ascend, BeginEarlier, leads_of, leg_at, legs_of, no_branch}
use Rattle.ats_streams.specs.Branches.{routes_of}
use Rattle.ats_streams.specs.Stream.{DeclaredStream}
use Rattle.ats_streams.specs.declared.branch.Branch.{Branch}
use Rattle.ats_network.specs.Class.{class_at, port_before}
use Rattle.ats_network.specs.Laws.{AreLeast, EndApart, MakesTree}
use Rattle.ats_network.specs.Listeners.{Listener, listeners_of, station_of}
use Rattle.ats_network.specs.Network.{HasOneListener, IsNetwork}
use Rattle.ats_network.specs.Path.{IsBranch, IsTree, IsValidPath, nodes_along}
use Rattle.ats_network.specs.Sender.{Sender, stream_sender}
use Rattle.ats_network.specs.Senders.{sender_at}
use Rattle.ats_network.specs.Shortest.{shortest_of}
use Rattle.ats_tree_examples.specs.Networks.{branch, stream_of, split, split_and_flow, split_topology, by_two_streams}
use Rattle.ats_tree_examples.specs.Networks.{split_and_stream, split_and_slower, split_by_class, split_ranged}
use Rattle.ats_tree_examples.specs.Networks.{behind_branches, behind_bridge, behind_ports, branch_ranged}
use Rattle.ats_tree_examples.specs.Networks.{bridge_branches, bridge_ports, from_bridge}
use Rattle.ats_tree_examples.specs.Networks.{crossed, tree, tree_and_flow, tree_branches, tree_ports, ring_topology}
use Rattle.ats_tree_examples.specs.Networks.{turned, turned_branches, turned_ports, round}

-- What the definitions of branches, trees and networks say of the worked networks.

-- these are networks, and not all of their streams have one listener
pub record TreesAreNetworks : Type 0 where
  pub over_one : IsNetwork split
  pub beside_flow : IsNetwork split_and_flow
  pub with_two : IsNetwork by_two_streams
  pub against : IsNetwork crossed
  pub over_three : IsNetwork tree
  pub of_a_bridge : IsNetwork from_bridge
  pub behind_a_bridge : IsNetwork behind_bridge
  pub with_no_stay : IsNetwork tree_and_flow
  pub in_another_order : IsNetwork turned
  pub beside_stream : IsNetwork split_and_stream
  pub of_classes : IsNetwork split_by_class
  pub of_ranges : IsNetwork split_ranged
  pub beside_slower : IsNetwork split_and_slower
  pub ranged_for_copies : IsNetwork branch_ranged
  pub several : ¬ HasOneListener split
  pub one_each : HasOneListener by_two_streams

-- a stream has these legs, these ports in front of each leg, and these routes
pub record IsLaidOut (ports : List ℕ) (branches : List Branch) (legs leads routes : List (List ℕ)) : Type 0 where
  pub legs_are : legs_of ports branches ≡ legs
  pub leads_are : leads_of ports branches ≡ leads
  pub routes_are : routes_of ports branches ≡ routes

-- a listener with this name, these ports of its leg, and this route
abbrev pub listener : Option (List ℕ) → List ℕ → List ℕ → Listener
listener name leg route = record { name = name; leg = leg; route = route }

-- the names of the listeners of a stream over a topology, of all but the first
abbrev pub listener_names : DeclaredTopology → DeclaredStream → List (Option (List ℕ))
listener_names topology stream = map (λ (l : Listener). l.name) (listeners_of topology stream)

-- the stream of the tree as a sender; and with a class of its own at each port, in the order of the ports
abbrev pub of_tree : Sender
of_tree = sender_at tree 0

abbrev pub of_classes : Sender
of_classes = stream_sender
    (stream_of (codes "a") tree_ports tree_branches (1 ∷ 2 ∷ 3 ∷ 4 ∷ 5 ∷ 6 ∷ 7 ∷ []) 1000000)

-- the legs and routes of the worked streams; the listeners' names; the port before each port; and the class at a port
-- is that at its place, in whichever leg it is. Listeners are in the order of legs, and may not be put in that of their
-- names or nodes; each has the ports of its own leg beside its whole route, and all but the first the name of the
-- station where this ends
pub record RoutesAreWorked : Type 0 where
  pub over_one : IsLaidOut (0 ∷ 2 ∷ 4 ∷ []) (branch 2 0 1 ∷ []) ((0 ∷ 2 ∷ []) ∷ (4 ∷ []) ∷ []) ([] ∷ (0 ∷ []) ∷ [])
      ((0 ∷ 2 ∷ []) ∷ (0 ∷ 4 ∷ []) ∷ [])
  pub against : IsLaidOut (4 ∷ 2 ∷ 1 ∷ []) (branch 2 0 1 ∷ []) ((4 ∷ 2 ∷ []) ∷ (1 ∷ []) ∷ []) ([] ∷ (4 ∷ []) ∷ [])
      ((4 ∷ 2 ∷ []) ∷ (4 ∷ 1 ∷ []) ∷ [])
  pub over_three : IsLaidOut tree_ports tree_branches
      ((0 ∷ 2 ∷ 4 ∷ []) ∷ (6 ∷ []) ∷ (8 ∷ 10 ∷ []) ∷ (12 ∷ []) ∷ [])
      ([] ∷ (0 ∷ []) ∷ (0 ∷ 2 ∷ []) ∷ (0 ∷ 2 ∷ 8 ∷ []) ∷ [])
      ((0 ∷ 2 ∷ 4 ∷ []) ∷ (0 ∷ 6 ∷ []) ∷ (0 ∷ 2 ∷ 8 ∷ 10 ∷ []) ∷ (0 ∷ 2 ∷ 8 ∷ 12 ∷ []) ∷ [])
  pub names : map (listener_names tree.topology) tree.streams
      ≡ (None ∷ Some (codes "s3") ∷ Some (codes "s4") ∷ Some (codes "s5") ∷ []) ∷ []
  pub before : map (port_before of_tree) tree_ports
      ≡ None ∷ Some 0 ∷ Some 2 ∷ Some 0 ∷ Some 2 ∷ Some 8 ∷ Some 8 ∷ []
  pub of_a_bridge : IsLaidOut bridge_ports bridge_branches ((4 ∷ []) ∷ (3 ∷ 6 ∷ []) ∷ (8 ∷ []) ∷ [])
      ([] ∷ [] ∷ [] ∷ []) ((4 ∷ []) ∷ (3 ∷ 6 ∷ []) ∷ (8 ∷ []) ∷ [])
  pub before_of_a_bridge : map (port_before (sender_at from_bridge 0)) bridge_ports
      ≡ None ∷ None ∷ Some 3 ∷ None ∷ []
  pub behind_the_talker : IsLaidOut behind_ports behind_branches ((4 ∷ []) ∷ (3 ∷ 6 ∷ []) ∷ (1 ∷ []) ∷ [])
      ([] ∷ [] ∷ (3 ∷ []) ∷ []) ((4 ∷ []) ∷ (3 ∷ 6 ∷ []) ∷ (3 ∷ 1 ∷ []) ∷ [])
  pub before_behind : map (port_before (sender_at behind_bridge 0)) behind_ports
      ≡ None ∷ None ∷ Some 3 ∷ Some 3 ∷ []
  pub in_another_order : IsLaidOut turned_ports turned_branches
      ((0 ∷ 6 ∷ []) ∷ (2 ∷ 4 ∷ []) ∷ (8 ∷ 12 ∷ []) ∷ (10 ∷ []) ∷ [])
      ([] ∷ (0 ∷ []) ∷ (0 ∷ 2 ∷ []) ∷ (0 ∷ 2 ∷ 8 ∷ []) ∷ [])
      ((0 ∷ 6 ∷ []) ∷ (0 ∷ 2 ∷ 4 ∷ []) ∷ (0 ∷ 2 ∷ 8 ∷ 12 ∷ []) ∷ (0 ∷ 2 ∷ 8 ∷ 10 ∷ []) ∷ [])
  pub listeners : map (listeners_of turned.topology) turned.streams
      ≡ (
      listener None (0 ∷ 6 ∷ []) (0 ∷ 6 ∷ [])
      ∷ listener (Some (codes "s2")) (2 ∷ 4 ∷ []) (0 ∷ 2 ∷ 4 ∷ [])
      ∷ listener (Some (codes "s5")) (8 ∷ 12 ∷ []) (0 ∷ 2 ∷ 8 ∷ 12 ∷ [])
      ∷ listener (Some (codes "s4")) (10 ∷ []) (0 ∷ 2 ∷ 8 ∷ 10 ∷ [])
      ∷ []
      )
      ∷ []
  pub stations : map (station_of turned.topology) (routes_of turned_ports turned_branches)
      ≡ codes "s3" ∷ codes "s2" ∷ codes "s5" ∷ codes "s4" ∷ []
  pub before_turned : map (port_before (sender_at turned 0)) turned_ports
      ≡ None ∷ Some 0 ∷ Some 0 ∷ Some 2 ∷ Some 2 ∷ Some 8 ∷ Some 8 ∷ []
  pub classes : map (class_at of_classes) (12 ∷ 10 ∷ 8 ∷ 6 ∷ 4 ∷ 2 ∷ 0 ∷ []) ≡ 7 ∷ 6 ∷ 5 ∷ 4 ∷ 3 ∷ 2 ∷ 1 ∷ []

-- these are no branches of a stream with these ports only because one of them does not begin at a hop of an earlier leg
-- that is not the first of a branch
pub record BeginsBadly (ports : List ℕ) (branches : List Branch) : Type 0 where
  pub places : Ascend 0 branches (length ports)
  pub badly : ¬ BeginEarlier (legs_of ports branches) 1 branches
  pub no_branches : ¬ AreBranches ports branches

-- or only because a leg has no port
pub record HasEmptyLeg (ports : List ℕ) (branches : List Branch) : Type 0 where
  pub begin : BeginEarlier (legs_of ports branches) 1 branches
  pub empty : ¬ Ascend 0 branches (length ports)
  pub no_branches : ¬ AreBranches ports branches

-- a branch may begin at the talker, but not at the first hop of another branch, nor behind the last hop of a leg, nor
-- at its own leg or a later one; and each leg has a port
pub record BranchesBeginEarlier : Type 0 where
  pub well : AreBranches tree_ports tree_branches
  pub at_talker : AreBranches tree_ports (branch 3 0 0 ∷ [])
  pub at_first_of_branch : BeginsBadly tree_ports (branch 3 0 1 ∷ branch 5 1 0 ∷ [])
  pub behind_the_last : BeginsBadly tree_ports (branch 3 0 3 ∷ [])
  pub at_its_own : BeginsBadly tree_ports (branch 3 1 1 ∷ [])
  pub at_a_later : BeginsBadly tree_ports (branch 3 2 1 ∷ branch 5 0 1 ∷ [])
  pub no_port : HasEmptyLeg tree_ports (branch 3 0 1 ∷ branch 3 0 2 ∷ [])
  pub no_last_port : HasEmptyLeg tree_ports (branch 3 0 1 ∷ branch 7 0 2 ∷ [])

-- each branch leads from the node where it begins to another one
abbrev pub EachLeads : DeclaredTopology → List ℕ → List Branch → Type 0
EachLeads topology ports branches = (n : ℕ) → n < length branches → IsBranch topology (legs_of ports branches)
    (slice_index_or branches n no_branch) (leg_at (legs_of ports branches) (1 + n))

-- no node occurs twice among those to which the ports of legs lead
abbrev pub NodesApart : DeclaredTopology → List ℕ → Type 0
NodesApart topology ports = AllPairs (λ a b. a ≢ b) (nodes_along topology.ports ports)

-- these legs are no tree only because some node occurs twice
pub record MeetsAgain (topology : DeclaredTopology) (ports : List ℕ) (branches : List Branch) : Type 0 where
  pub branches_are : AreBranches ports branches
  pub trunk : IsValidPath topology (leg_at (legs_of ports branches) 0)
  pub each : EachLeads topology ports branches
  pub not_apart : ¬ NodesApart topology ports
  pub no_tree : ¬ IsTree topology ports branches

-- these legs are no tree only because a branch does not lead on from where it begins
pub record LeadsAstray (topology : DeclaredTopology) (ports : List ℕ) (branches : List Branch) : Type 0 where
  pub branches_are : AreBranches ports branches
  pub trunk : IsValidPath topology (leg_at (legs_of ports branches) 0)
  pub not_each : ¬ EachLeads topology ports branches
  pub apart : NodesApart topology ports
  pub no_tree : ¬ IsTree topology ports branches

-- a branch comes to a bridge of the trunk by another way; two branches meet at a bridge; a branch goes to the trunk's
-- listener again, or back to the talker; one begins at a station, by its one port again. And one does not go on from
-- where it begins
pub record OtherWaysAreRefused : Type 0 where
  pub second_way : MeetsAgain ring_topology (0 ∷ 2 ∷ 8 ∷ 10 ∷ 14 ∷ 12 ∷ []) (branch 4 0 1 ∷ [])
  pub branches_meet : MeetsAgain ring_topology (0 ∷ 2 ∷ 4 ∷ 8 ∷ 10 ∷ 14 ∷ 12 ∷ []) (branch 3 0 2 ∷ branch 5 0 1 ∷ [])
  pub listener_twice : MeetsAgain split_topology (0 ∷ 2 ∷ 2 ∷ []) (branch 2 0 1 ∷ [])
  pub back_to_talker : MeetsAgain split_topology (0 ∷ 2 ∷ 1 ∷ []) (branch 2 0 1 ∷ [])
  pub at_station : MeetsAgain split_topology (0 ∷ 2 ∷ 0 ∷ 4 ∷ []) (branch 2 0 0 ∷ [])
  pub begins_elsewhere : LeadsAstray tree.topology (0 ∷ 2 ∷ 4 ∷ 6 ∷ []) (branch 3 0 2 ∷ [])

-- the routes of the tree's stream
abbrev pub tree_routes : List (List ℕ)
tree_routes = routes_of tree_ports tree_branches

-- the routes of the bridge's stream; and the walks from it to s2, to b1, and over b1 to s3
abbrev pub bridge_routes : List (List ℕ)
bridge_routes = (4 ∷ []) ∷ (3 ∷ 6 ∷ []) ∷ (8 ∷ []) ∷ []

abbrev pub on_the_way : List (List ℕ)
on_the_way = (4 ∷ []) ∷ (3 ∷ []) ∷ (3 ∷ 6 ∷ []) ∷ []

-- these are the walks that are computed from the talker to its four listeners, and the least, so they make a tree; so
-- do
-- those from bridge b2 to s2, s3 and b3, and no listener is on the way to another one; but b1 is on the way to s3
pub record LeastWalksAreWorked : Type 0 where
  pub walks : map (shortest_of tree.topology 0) (1 ∷ 2 ∷ 3 ∷ 4 ∷ []) ≡ map (λ route. Some route) tree_routes
  pub least : AreLeast tree.topology 0 (1 ∷ 2 ∷ 3 ∷ 4 ∷ []) tree_routes
  pub makes : MakesTree tree.topology tree_routes
  pub from_bridge : map (shortest_of tree.topology 6) (1 ∷ 2 ∷ 7 ∷ []) ≡ map (λ route. Some route) bridge_routes
  pub least_from_bridge : AreLeast tree.topology 6 (1 ∷ 2 ∷ 7 ∷ []) bridge_routes
  pub apart_from_bridge : EndApart tree.topology bridge_routes
  pub makes_from_bridge : MakesTree tree.topology bridge_routes
  pub passing : map (shortest_of tree.topology 6) (1 ∷ 5 ∷ 2 ∷ []) ≡ map (λ route. Some route) on_the_way
  pub least_passing : AreLeast tree.topology 6 (1 ∷ 5 ∷ 2 ∷ []) on_the_way
  pub not_apart : ¬ EndApart tree.topology on_the_way
  pub no_tree : ¬ MakesTree tree.topology on_the_way

-- a tree need not have the least walks as its routes: over the ring a stream goes to s4 by four ports, where three lead
-- there. So `IsTree` may not ask for them. Nor for stations at their ends: a branch may end at a bridge, and a trunk
-- may begin at one; then branches may begin at the talker
pub record LongerWaysAreTrees : Type 0 where
  pub rules : IsNetwork round
  pub around : IsTree ring_topology (0 ∷ 2 ∷ 4 ∷ 8 ∷ 10 ∷ []) (branch 3 0 2 ∷ [])
  pub ends_at_bridge : IsTree tree.topology (0 ∷ 2 ∷ 4 ∷ 8 ∷ []) (branch 3 0 2 ∷ [])
  pub begins_at_bridge : IsTree tree.topology (2 ∷ 4 ∷ 8 ∷ 10 ∷ []) (branch 2 0 1 ∷ [])
  pub branches_at_bridge : IsTree tree.topology bridge_ports bridge_branches
  pub routes : map (λ (s : DeclaredStream). routes_of s.ports s.branches) round.streams
      ≡ ((0 ∷ 2 ∷ 4 ∷ []) ∷ (0 ∷ 2 ∷ 8 ∷ 10 ∷ []) ∷ []) ∷ []
  pub shorter : IsWalk ring_topology.ports 0 3 (0 ∷ 14 ∷ 10 ∷ [])
  pub computed : shortest_of ring_topology 0 3 ≡ Some (0 ∷ 14 ∷ 10 ∷ [])
  pub not_least : ¬ IsLeastWalk ring_topology.ports 0 3 (0 ∷ 2 ∷ 8 ∷ 10 ∷ [])
