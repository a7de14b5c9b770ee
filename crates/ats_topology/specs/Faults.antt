use Rattle.std.specs.Prelude.{ℕ, zero, suc, ◌+◌, Bool, ◌&&◌, ◌||◌, ◌==◌, nat_lt, not, if◌then◌else◌, List, [], length}
use Rattle.std.specs.Prelude.{take, slice_index_or, count_by, Option, Some, None, is_some, is_none}
use Rattle.std.specs.List.{list_any, position_from}
use Rattle.std.specs.Option.{option_map, option_or}
use Rattle.ats_num.specs.Places.{place_of}
use Rattle.ats_clock.specs.declared.clock.TheConstants.{MAX_DEVIATION_PPM, MAX_STEP_PS}
use Rattle.ats_topology.specs.Node.{is_station, least_processing_of, greatest_processing_of, residence_of, clock_of}
use Rattle.ats_topology.specs.Node.{names_of}
use Rattle.ats_topology.specs.Link.{joins, ends_at, is_self_link}
use Rattle.ats_topology.specs.Rates.{ps_per_bit_of}
use Rattle.ats_topology.specs.declared.node.Kind.{Kind}
use Rattle.ats_topology.specs.declared.node.Node.{Node}
use Rattle.ats_topology.specs.declared.link.Link.{Link}
use Rattle.ats_topology.specs.declared.node.TheConstants.{MAX_NODES, MAX_PROCESSING_NS, MAX_RESIDENCE_NS}
use Rattle.ats_topology.specs.declared.link.TheConstants.{MAX_LINKS, MAX_PROPAGATION_NS}
use Rattle.ats_topology.specs.declared.fault.TopologyFault.{TopologyFault}
use Rattle.ats_topology.specs.declared.fault.TopologyFault.TheVariants.{NodeTwice, LinkTwice, SelfLink, UnknownNode}
use Rattle.ats_topology.specs.declared.fault.TopologyFault.TheVariants.{StationLinks, BadRate, Limit, BadProcessing}

-- the least number below n that passes a test
abbrev pub first_below : (ℕ → Bool) → ℕ → Option ℕ
first_below test zero = None
first_below test (suc n) = option_or (first_below test n) (if test n then Some n else None)

-- an earlier name is the same as the one at this place
abbrev pub is_name_again : List (List ℕ) → ℕ → Bool
is_name_again names i = is_some (place_of (slice_index_or names i []) (take i names))

-- for places past the end of a list of links
abbrev pub no_link : Link
no_link = record { a = []; b = []; mbps = 0; propagation_ns = 0 }

-- an earlier link joins the same names as the one at this place
abbrev pub is_link_again : List Link → ℕ → Bool
is_link_again links i =
    list_any (joins (slice_index_or links i no_link).a (slice_index_or links i no_link).b) (take i links)

-- an end of the link is the name of no node
abbrev pub has_unknown_end : List (List ℕ) → Link → Bool
has_unknown_end names link = is_none (place_of link.a names) || is_none (place_of link.b names)

-- the node is a station, and not exactly one link ends at it
abbrev pub is_badly_linked : List Link → Node → Bool
is_badly_linked links node = is_station node.kind && not (count_by (ends_at node.name) links == 1)

-- a link may not have the rate of this one
abbrev pub has_bad_rate : Link → Bool
has_bad_rate link = is_none (ps_per_bit_of link.mbps)

-- a greatest processing or a residence is over its limit, or the deviation or the step of a clock
abbrev pub is_kind_over : Kind → Bool
is_kind_over kind =
    nat_lt MAX_PROCESSING_NS (greatest_processing_of kind) || nat_lt MAX_RESIDENCE_NS (residence_of kind)
    || nat_lt MAX_DEVIATION_PPM (clock_of kind).deviation_ppm || nat_lt MAX_STEP_PS (clock_of kind).step_ps

-- so is one of this node's
abbrev pub is_node_over : Node → Bool
is_node_over node = is_kind_over node.kind

-- a node's least processing is over its greatest
abbrev pub has_bad_processing : Node → Bool
has_bad_processing node = nat_lt (greatest_processing_of node.kind) (least_processing_of node.kind)

-- a link's propagation is over its limit
abbrev pub is_link_over : Link → Bool
is_link_over link = nat_lt MAX_PROPAGATION_NS link.propagation_ns

-- a number of nodes or links is over its limit, or one of theirs is
abbrev pub is_over : List Node → List Link → Bool
is_over nodes links = nat_lt MAX_NODES (length nodes) || nat_lt MAX_LINKS (length links) || list_any is_node_over nodes
    || list_any is_link_over links

-- the fault of the entry at a place, where there is one; entries are counted from 1
abbrev pub fault_at : (ℕ → TopologyFault) → Option ℕ → Option TopologyFault
fault_at fault place = option_map (λ i. fault (i + 1)) place

-- the first name that an earlier node has
abbrev pub node_twice : List Node → Option TopologyFault
node_twice nodes = fault_at NodeTwice (first_below (is_name_again (names_of nodes)) (length nodes))

-- the first link that joins what an earlier one joins
abbrev pub link_twice : List Link → Option TopologyFault
link_twice links = fault_at LinkTwice (first_below (is_link_again links) (length links))

-- the first link with one name at both ends
abbrev pub self_link : List Link → Option TopologyFault
self_link links = fault_at SelfLink (position_from is_self_link 0 links)

-- the first link with an unknown end
abbrev pub unknown_node : List Node → List Link → Option TopologyFault
unknown_node nodes links = fault_at UnknownNode (position_from (has_unknown_end (names_of nodes)) 0 links)

-- the first station without exactly one link
abbrev pub station_links : List Node → List Link → Option TopologyFault
station_links nodes links = fault_at StationLinks (position_from (is_badly_linked links) 0 nodes)

-- the first link with a bad rate
abbrev pub bad_rate : List Link → Option TopologyFault
bad_rate links = fault_at BadRate (position_from has_bad_rate 0 links)

-- over a limit
abbrev pub limit : List Node → List Link → Option TopologyFault
limit nodes links = if is_over nodes links then Some Limit else None

-- the first bridge whose least processing is over its greatest
abbrev pub bad_processing : List Node → Option TopologyFault
bad_processing nodes = fault_at BadProcessing (position_from has_bad_processing 0 nodes)

-- the first fault of nodes and links, if they have one: the kinds in this order, and of a kind the earliest entry
abbrev pub topology_fault : List Node → List Link → Option TopologyFault
topology_fault nodes links =
    option_or (node_twice nodes)
    (option_or (link_twice links)
    (option_or (self_link links)
    (option_or (unknown_node nodes links)
    (option_or (station_links nodes links)
    (option_or (bad_rate links)
    (option_or (limit nodes links)
    (bad_processing nodes)))))))
