use Rattle.std.specs.Prelude.{◌≡◌, ◌↔◌, true, false, List, length, Some, None}
use Rattle.ats_topology.specs.Faults.{has_bad_processing, has_bad_rate, has_unknown_end, is_badly_linked, is_link_again}
use Rattle.ats_topology.specs.Faults.{is_name_again, is_over, topology_fault}
use Rattle.ats_topology.specs.Link.{is_self_link}
use Rattle.ats_topology.specs.Node.{names_of}
use Rattle.ats_topology.specs.declared.fault.TopologyFault.{TopologyFault}
use Rattle.ats_topology.specs.declared.fault.TopologyFault.TheVariants.{NodeTwice, LinkTwice, SelfLink, UnknownNode}
use Rattle.ats_topology.specs.declared.fault.TopologyFault.TheVariants.{StationLinks, BadRate, Limit, BadProcessing}
use Rattle.ats_topology.specs.declared.link.Link.{Link}
use Rattle.ats_topology.specs.declared.node.Node.{Node}
use Rattle.ats_network_file_law.specs.First.{IsFirstIn, IsFirstPlace, NoneIn, NonePlace}

-- what nodes and links without a fault keep, one kind of fault after another: no name stands at two nodes
abbrev pub AreNamedOnce : List Node → Type 0
AreNamedOnce nodes = NonePlace (is_name_again (names_of nodes)) (length nodes)

-- nor do two links join the same nodes
abbrev pub AreJoinedOnce : List Node → List Link → Type 0
AreJoinedOnce nodes links = AreNamedOnce nodes × NonePlace (is_link_again links) (length links)

-- nor has a link one name at both ends
abbrev pub AreBetweenTwo : List Node → List Link → Type 0
AreBetweenTwo nodes links = AreJoinedOnce nodes links × NoneIn is_self_link links

-- nor is an end unknown
abbrev pub AreKnown : List Node → List Link → Type 0
AreKnown nodes links = AreBetweenTwo nodes links × NoneIn (has_unknown_end (names_of nodes)) links

-- and each station has one link
abbrev pub AreLinked : List Node → List Link → Type 0
AreLinked nodes links = AreKnown nodes links × NoneIn (is_badly_linked links) nodes

-- and each link a rate that a link may have
abbrev pub AreRated : List Node → List Link → Type 0
AreRated nodes links = AreLinked nodes links × NoneIn has_bad_rate links

-- and nothing is over its limit
abbrev pub AreWithin : List Node → List Link → Type 0
AreWithin nodes links = AreRated nodes links × (is_over nodes links ≡ false)

-- and no least processing is over its greatest
abbrev pub AreFaultless : List Node → List Link → Type 0
AreFaultless nodes links = AreWithin nodes links × NoneIn has_bad_processing nodes

-- a fault is the first: no fault of a kind before it is there, and of its kind none at an earlier entry
abbrev pub IsFirstFault : List Node → List Link → TopologyFault → Type 0
IsFirstFault nodes links (NodeTwice n) = IsFirstPlace (is_name_again (names_of nodes)) (length nodes) n
IsFirstFault nodes links (LinkTwice n) = AreNamedOnce nodes × IsFirstPlace (is_link_again links) (length links) n
IsFirstFault nodes links (SelfLink n) = AreJoinedOnce nodes links × IsFirstIn is_self_link links n
IsFirstFault nodes links (UnknownNode n) = AreBetweenTwo nodes links
    × IsFirstIn (has_unknown_end (names_of nodes)) links n
IsFirstFault nodes links (StationLinks n) = AreKnown nodes links × IsFirstIn (is_badly_linked links) nodes n
IsFirstFault nodes links (BadRate n) = AreLinked nodes links × IsFirstIn has_bad_rate links n
IsFirstFault nodes links Limit = AreRated nodes links × (is_over nodes links ≡ true)
IsFirstFault nodes links (BadProcessing n) = AreWithin nodes links × IsFirstIn has_bad_processing nodes n

-- nodes and links give a fault exactly where it is their first, and give none exactly where they have none
pub record TellsFirst (nodes : List Node) (links : List Link) : Type 0 where
  pub first : (fault : TopologyFault) → topology_fault nodes links ≡ Some fault ↔ IsFirstFault nodes links fault
  pub none : topology_fault nodes links ≡ None ↔ AreFaultless nodes links

abbrev pub TopologyFaultIsTheFirst : Type 0
TopologyFaultIsTheFirst = (nodes : List Node) (links : List Link) → TellsFirst nodes links
