use Rattle.std.specs.Prelude.{◌≡◌, ℕ, List, [], ◌∷◌, ◌++◌, codes, Option, Some, None}
use Rattle.ats_topology.specs.Faults.{topology_fault}
use Rattle.ats_topology.specs.declared.fault.TopologyFault.{TopologyFault}
use Rattle.ats_topology.specs.declared.fault.TopologyFault.TheVariants.{NodeTwice, LinkTwice, SelfLink, UnknownNode}
use Rattle.ats_topology.specs.declared.fault.TopologyFault.TheVariants.{StationLinks, BadRate, Limit, BadProcessing}
use Rattle.ats_topology.specs.declared.link.Link.{Link}
use Rattle.ats_topology.specs.declared.node.Kind.TheVariants.{Bridge, Station}
use Rattle.ats_topology.specs.declared.node.Node.{Node}

-- Nodes and links with several faults at once, and which of them is named.

abbrev pub station : List ℕ → Node
station name = record { name = name; kind = Station }

-- a bridge with these least and greatest processing times and this residence
abbrev pub bridge : List ℕ → ℕ → ℕ → ℕ → Node
bridge name least most residence = record { name = name; kind = Bridge least most residence 0 0 }

-- a link of 1000 Mb/s
abbrev pub link : List ℕ → List ℕ → Link
link a b = record { a = a; b = b; mbps = 1000; propagation_ns = 500 }

-- two stations with a bridge between them, and their links, which have no fault
abbrev pub sound_nodes : List Node
sound_nodes = station (codes "s1") ∷ station (codes "s2") ∷ bridge (codes "b1") 1 1 1 ∷ []

abbrev pub sound_links : List Link
sound_links = link (codes "s1") (codes "b1") ∷ link (codes "b1") (codes "s2") ∷ []

-- further nodes: one with the name of a station, a station without a link, a bridge where a frame may stay too long,
-- and one whose least processing is over its greatest
abbrev pub twin : Node
twin = station (codes "s1")

abbrev pub lonely : Node
lonely = station (codes "s3")

abbrev pub long : Node
long = bridge (codes "b3") 1 1 1000000001

abbrev pub turned : Node
turned = bridge (codes "b2") 6 5 1

-- and further links: one that joins what another joins, one with one name at both ends, one to no node, and one of a
-- rate that no link has
abbrev pub again : Link
again = link (codes "b1") (codes "s1")

abbrev pub looped : Link
looped = link (codes "b1") (codes "b1")

abbrev pub to_none : Link
to_none = link (codes "b1") (codes "x")

abbrev pub slow : Link
slow = record { a = codes "b1"; b = codes "b2"; mbps = 20; propagation_ns = 500 }

-- the fault of these nodes and links before those that have none, and behind them
abbrev pub fault_before : List Node → List Link → Option TopologyFault
fault_before nodes links = topology_fault (nodes ++ sound_nodes) (links ++ sound_links)

abbrev pub fault_behind : List Node → List Link → Option TopologyFault
fault_behind nodes links = topology_fault (sound_nodes ++ nodes) (sound_links ++ links)

-- all eight faults are there, and one less each time: the kind that is named does not go by where entries stand. Here
-- those of an earlier kind stand before those of a later one
pub record FaultsBefore : Type 0 where
  pub all : fault_before (twin ∷ lonely ∷ long ∷ turned ∷ []) (again ∷ looped ∷ to_none ∷ slow ∷ [])
      ≡ Some (NodeTwice 5)
  pub seven : fault_before (lonely ∷ long ∷ turned ∷ []) (again ∷ looped ∷ to_none ∷ slow ∷ []) ≡ Some (LinkTwice 5)
  pub six : fault_before (lonely ∷ long ∷ turned ∷ []) (looped ∷ to_none ∷ slow ∷ []) ≡ Some (SelfLink 1)
  pub five : fault_before (lonely ∷ long ∷ turned ∷ []) (to_none ∷ slow ∷ []) ≡ Some (UnknownNode 1)
  pub four : fault_before (lonely ∷ long ∷ turned ∷ []) (slow ∷ []) ≡ Some (StationLinks 1)
  pub three : fault_before (long ∷ turned ∷ []) (slow ∷ []) ≡ Some (BadRate 1)
  pub two : fault_before (long ∷ turned ∷ []) [] ≡ Some Limit
  pub one : fault_before (turned ∷ []) [] ≡ Some (BadProcessing 1)
  pub none : fault_before [] [] ≡ None

-- and here behind them
pub record FaultsBehind : Type 0 where
  pub all : fault_behind (turned ∷ long ∷ lonely ∷ twin ∷ []) (slow ∷ to_none ∷ looped ∷ again ∷ [])
      ≡ Some (NodeTwice 7)
  pub seven : fault_behind (turned ∷ long ∷ lonely ∷ []) (slow ∷ to_none ∷ looped ∷ again ∷ []) ≡ Some (LinkTwice 6)
  pub six : fault_behind (turned ∷ long ∷ lonely ∷ []) (slow ∷ to_none ∷ looped ∷ []) ≡ Some (SelfLink 5)
  pub five : fault_behind (turned ∷ long ∷ lonely ∷ []) (slow ∷ to_none ∷ []) ≡ Some (UnknownNode 4)
  pub four : fault_behind (turned ∷ long ∷ lonely ∷ []) (slow ∷ []) ≡ Some (StationLinks 6)
  pub three : fault_behind (turned ∷ long ∷ []) (slow ∷ []) ≡ Some (BadRate 3)
  pub two : fault_behind (turned ∷ long ∷ []) [] ≡ Some Limit
  pub one : fault_behind (turned ∷ []) [] ≡ Some (BadProcessing 4)

-- of two entries with one kind of fault the first is named
pub record FirstOfAKind : Type 0 where
  pub nodes : fault_behind (station (codes "s2") ∷ station (codes "s1") ∷ []) [] ≡ Some (NodeTwice 4)
  pub links : fault_behind [] (link (codes "s2") (codes "b1") ∷ again ∷ []) ≡ Some (LinkTwice 3)
  pub loops : fault_behind [] (looped ∷ link (codes "s1") (codes "s1") ∷ []) ≡ Some (SelfLink 3)
  pub unknown : fault_behind [] (link (codes "y") (codes "b1") ∷ to_none ∷ []) ≡ Some (UnknownNode 3)
  pub stations : fault_behind (lonely ∷ station (codes "s4") ∷ []) [] ≡ Some (StationLinks 4)
  pub rates : fault_behind (bridge (codes "b2") 1 1 1 ∷ bridge (codes "b3") 1 1 1 ∷ [])
      (slow ∷ record { a = codes "b2"; b = codes "b3"; mbps = 0; propagation_ns = 1 } ∷ []) ≡ Some (BadRate 3)
  pub processing : fault_behind (turned ∷ bridge (codes "b3") 1 0 1 ∷ []) [] ≡ Some (BadProcessing 4)

-- each side of a kind: a name at a station and a bridge; a link that joins the same nodes in the same direction; an end
-- that is no node, on either side; a station with two links, and one with none; a bridge may have one link or none
pub record EachSideIsNamed : Type 0 where
  pub other_kind : fault_behind (bridge (codes "s2") 1 1 1 ∷ []) [] ≡ Some (NodeTwice 4)
  pub same_way : fault_behind [] (link (codes "s1") (codes "b1") ∷ []) ≡ Some (LinkTwice 3)
  pub no_first_end : fault_behind [] (link (codes "x") (codes "b1") ∷ []) ≡ Some (UnknownNode 3)
  pub no_second_end : fault_behind [] (to_none ∷ []) ≡ Some (UnknownNode 3)
  pub no_end : fault_behind [] (link (codes "x") (codes "y") ∷ []) ≡ Some (UnknownNode 3)
  pub two_links : fault_behind (bridge (codes "b2") 1 1 1 ∷ []) (link (codes "b2") (codes "s2") ∷ [])
      ≡ Some (StationLinks 2)
  pub no_link : fault_behind (lonely ∷ []) [] ≡ Some (StationLinks 4)
  pub bridge_of_one : fault_behind (bridge (codes "b2") 1 1 1 ∷ []) (link (codes "b1") (codes "b2") ∷ []) ≡ None
  pub bridge_of_none : fault_behind (bridge (codes "b2") 1 1 1 ∷ []) [] ≡ None
  pub without_nodes : topology_fault [] [] ≡ None

pub record TopologyFaultsAreFirst : Type 0 where
  pub before : FaultsBefore
  pub behind : FaultsBehind
  pub of_a_kind : FirstOfAKind
  pub each_side : EachSideIsNamed
