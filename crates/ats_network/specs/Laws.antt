use Rattle.std.specs.Prelude.{◌≡◌, ◌≢◌, ◌↔◌, ℕ, ◌<◌, ◌≤◌, List, [], ◌∷◌, length, slice_index_or, Some, None, All}
use Rattle.std.specs.Prelude.{AllPairs}
use Rattle.ats_clock.specs.Laws.{IsNoGreater}
use Rattle.ats_clock.specs.Rates.{committed}
use Rattle.ats_topology.specs.Topology.{DeclaredTopology, HasIdealClocks, IsStationAt, IsTopology}
use Rattle.ats_topology.specs.Walks.{IsLeastWalk, NoWalk}
use Rattle.ats_streams.specs.Branches.{AreBranches, AreShort, routes_of}
use Rattle.ats_streams.specs.Flow.{DeclaredFlow}
use Rattle.ats_streams.specs.declared.branch.Branch.{Branch}
use Rattle.ats_network.specs.Path.{IsTree, IsValidPath, nodes_along}
use Rattle.ats_network.specs.Ends.{beginning_of}
use Rattle.ats_network.specs.Listeners.{end_of}
use Rattle.ats_network.specs.Bridges.{MeetAtBridge}
use Rattle.ats_network.specs.Sender.{Sender, flow_sender}
use Rattle.ats_network.specs.Class.{class_at}
use Rattle.ats_network.specs.Rates.{committed_at, scheduled_at}
use Rattle.ats_network.specs.Network.{DeclaredNetwork, IsNetwork, HasOneListener, senders_of}
use Rattle.ats_network.specs.Senders.{AllNeighbours, IsSender, HasPath}
use Rattle.ats_network.specs.Shortest.{shortest_of}

-- each sender of a network keeps a sender's rules
abbrev pub EachIsSender : Type 0
EachIsSender = (network : DeclaredNetwork) → IsNetwork network → All (IsSender network.topology) (senders_of network)

-- no route of a sender has more ports than its network allows: 16 or 64
abbrev pub EachRouteIsShort : Type 0
EachRouteIsShort = (network : DeclaredNetwork) → IsNetwork network
    → All (λ (s : Sender). AreShort network.most_ports (routes_of s.ports s.branches)) (senders_of network)

-- where each stream of a network has one listener, each sender's ports are a path
abbrev pub EachSenderHasPath : Type 0
EachSenderHasPath = (network : DeclaredNetwork) → IsNetwork network → HasOneListener network
    → All (HasPath network.topology) (senders_of network)

-- a sender's class at one of its ports is the class at the port's place among them
abbrev pub ClassIsByHop : Type 0
ClassIsByHop = (topology : DeclaredTopology) (s : Sender) (hop : ℕ) → IsSender topology s → hop < length s.ports
    → class_at s (slice_index_or s.ports hop 0) ≡ slice_index_or s.classes hop 0

-- each route of a tree is a valid path
abbrev pub EachRouteIsAPath : Type 0
EachRouteIsAPath = (topology : DeclaredTopology) (ports : List ℕ) (branches : List Branch) → AreBranches ports branches
    → IsTree topology ports branches → All (IsValidPath topology) (routes_of ports branches)

-- ports without branches are a tree just where they are a valid path, and this path is the one route
abbrev pub OneListenerIsAPath : Type 0
OneListenerIsAPath = (topology : DeclaredTopology) (path : List ℕ)
    → (IsTree topology path [] ↔ IsValidPath topology path) × (routes_of path [] ≡ path ∷ [])

-- the ports of a valid path meet at bridges: each but the last leads to one, and each but the first leaves one
abbrev pub PathsMeetAtBridges : Type 0
PathsMeetAtBridges = (topology : DeclaredTopology) (path : List ℕ) → IsTopology topology → IsValidPath topology path
    → AllNeighbours (MeetAtBridge topology) path

-- what the walk that is computed says, and what none says
pub record IsShortest (topology : DeclaredTopology) (a b : ℕ) : Type 0 where
  pub least : (walk : List ℕ) → shortest_of topology a b ≡ Some walk → IsLeastWalk topology.ports a b walk
  pub none : shortest_of topology a b ≡ None → NoWalk topology.ports a b

-- walks are, one by one, least walks from a node to these listeners, and valid paths
abbrev pub AreLeast : DeclaredTopology → ℕ → List ℕ → List (List ℕ) → Type 0
AreLeast topology talker [] [] = Unit {0}
AreLeast topology talker (l ∷ listeners) (r ∷ walks) =
    (IsLeastWalk topology.ports talker l r × IsValidPath topology r) × AreLeast topology talker listeners walks
AreLeast topology talker listeners walks = ⊥

-- these are the routes of a trunk and branches
pub record MakesTree (topology : DeclaredTopology) (routes : List (List ℕ)) : Type 0 where
  pub ports : List ℕ
  pub branches : List Branch
  pub are : AreBranches ports branches
  pub tree : IsTree topology ports branches
  pub routes_are : routes_of ports branches ≡ routes

-- no listener is on the way to another one: no walk ends at a node of another walk
abbrev pub EndApart : DeclaredTopology → List (List ℕ) → Type 0
EndApart topology walks = (i j : ℕ) → i < length walks → j < length walks → i ≢ j
    → All (λ node. node ≢ end_of topology.ports (slice_index_or walks i []))
    (nodes_along topology.ports (slice_index_or walks j []))

-- least walks from one node, 65,536 at most, each a valid path, are the routes of a trunk and branches exactly where no
-- listener is on the way to another one
abbrev pub LeastWalksMakeATree : Type 0
LeastWalksMakeATree = (topology : DeclaredTopology) (talker l : ℕ) (listeners : List ℕ) (r : List ℕ)
    (walks : List (List ℕ)) → AreLeast topology talker (l ∷ listeners) (r ∷ walks)
    → length (l ∷ listeners) ≤ 65536 → MakesTree topology (r ∷ walks) ↔ EndApart topology (r ∷ walks)

-- stations that are ends of valid paths from one node are on no way to another one: where each path begins at this node
-- and ends at a station, and no two end at the same, no path ends at a node of another one
abbrev pub StationsEndApart : Type 0
StationsEndApart = (topology : DeclaredTopology) (talker : ℕ) (paths : List (List ℕ)) → IsTopology topology
    → All (IsValidPath topology) paths → All (λ path. beginning_of topology.ports path ≡ talker) paths
    → All (λ path. IsStationAt topology (end_of topology.ports path)) paths
    → AllPairs (λ p q. end_of topology.ports p ≢ end_of topology.ports q) paths → EndApart topology paths

-- between two nodes of a topology, the walk that is computed is the least, and there is none only where no walk leads
-- there
abbrev pub ShortestIsLeast : Type 0
ShortestIsLeast = (topology : DeclaredTopology) (a b : ℕ) → IsTopology topology → a < length topology.nodes
    → b < length topology.nodes → IsShortest topology a b

-- at a port, the rate and burst to which a sender's frames conform are no less than declared, and those that its
-- scheduler is to have behind the port are no less than these
pub record AreNoLess (topology : DeclaredTopology) (s : Sender) (port : ℕ) : Type 0 where
  pub seen : IsNoGreater (committed s.rate s.burst_bits) (committed_at topology port s)
  pub scheduled : IsNoGreater (committed_at topology port s) (scheduled_at topology port s)

abbrev pub RatesAreNoLess : Type 0
RatesAreNoLess = (topology : DeclaredTopology) (s : Sender) (port : ℕ) → IsTopology topology
    → AreNoLess topology s port

-- at a port, a sender's frames conform to the declared rate and burst, and its scheduler is to have these
pub record AreDeclared (topology : DeclaredTopology) (s : Sender) (port : ℕ) : Type 0 where
  pub seen : committed_at topology port s ≡ committed s.rate s.burst_bits
  pub scheduled : scheduled_at topology port s ≡ committed s.rate s.burst_bits

-- where all clocks are ideal, rates and bursts are the declared ones at each port
abbrev pub IdealClocksKeepRates : Type 0
IdealClocksKeepRates = (topology : DeclaredTopology) (s : Sender) (port : ℕ) → HasIdealClocks topology
    → AreDeclared topology s port

-- a flow, which has neither rate nor burst, has none at any port, whatever the clocks
abbrev pub FlowsHaveNoRate : Type 0
FlowsHaveNoRate = (topology : DeclaredTopology) (f : DeclaredFlow) (port : ℕ) → IsTopology topology
    → AreDeclared topology (flow_sender f) port
