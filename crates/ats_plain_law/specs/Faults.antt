use Rattle.std.specs.Prelude.{◌≡◌, ℕ, ◌==◌, ◌||◌, ◌&&◌, not, nat_lt, List, [], length, take, slice_index_or, count_by}
use Rattle.std.specs.Prelude.{Some, None, is_none, is_some, if◌then◌else◌}
use Rattle.std.specs.List.{list_any, position_from}
use Rattle.std.specs.Str.{bytes_eq}
use Rattle.ats_topology.specs.Faults.{has_bad_processing, has_bad_rate, has_unknown_end, is_badly_linked, is_kind_over}
use Rattle.ats_topology.specs.Faults.{is_link_again, is_link_over, is_name_again, is_node_over, is_over, no_link}
use Rattle.ats_topology.specs.Link.{is_self_link, joins}
use Rattle.ats_topology.specs.Node.{clock_of, greatest_processing_of, is_station, least_processing_of, residence_of}
use Rattle.ats_topology.specs.Rates.{ps_per_bit_of}
use Rattle.ats_topology.specs.Topology.{DeclaredTopology}
use Rattle.ats_topology.specs.declared.link.Link.{Link}
use Rattle.ats_topology.specs.declared.node.Kind.{Kind}
use Rattle.ats_topology.specs.declared.node.Node.{Node}
use Rattle.ats_streams.specs.Stream.{DeclaredStream, stream_fault_within}
use Rattle.ats_streams.specs.declared.fault.StreamFault.{StreamFault}
use Rattle.ats_streams.specs.declared.fault.StreamFault.TheVariants.{Limit}
use Rattle.ats_network.specs.Rates.{is_overrated}
use Rattle.ats_network.specs.Sender.{stream_sender}
use Rattle.ats_network_file.specs.Senders.{stream_fault_over}

-- a name is there again where an earlier one has the same bytes; a link where an earlier one has the same two ends, in
-- this order or the other; a link is its own other end where both have the same bytes; and an end is unknown where no
-- name has its bytes
pub record NamesAreCompared : Type 0 where
  pub name : (names : List (List ℕ)) (i : ℕ) → is_name_again names i
      ≡ is_some (position_from (bytes_eq (slice_index_or names i [])) 0 (take i names))
  pub ends : (a b : List ℕ) (link : Link) → joins a b link
      ≡ ((bytes_eq link.a a && bytes_eq link.b b) || (bytes_eq link.a b && bytes_eq link.b a))
  pub link : (links : List Link) (i : ℕ) → is_link_again links i
      ≡ list_any (joins (slice_index_or links i no_link).a (slice_index_or links i no_link).b) (take i links)
  pub self : (link : Link) → is_self_link link ≡ bytes_eq link.a link.b
  pub unknown : (names : List (List ℕ)) (link : Link) → has_unknown_end names link
      ≡ (is_none (position_from (bytes_eq link.a) 0 names) || is_none (position_from (bytes_eq link.b) 0 names))
  pub linked : (links : List Link) (node : Node) → is_badly_linked links node
      ≡ (is_station node.kind
      && not (count_by (λ (l : Link). bytes_eq l.a node.name || bytes_eq l.b node.name) links == 1))

-- a rate is bad that is none of those of links; processing where the least is over the greatest; and over a limit is a
-- bridge of more than 10^6 ns of processing, 10^9 ns of residence, 1000 ppm or 10^7 ps of its clock, a link of more
-- than 10^6 ns, and more than 1024 nodes or 2048 links. The least processing is not asked
pub record NumbersAreCompared : Type 0 where
  pub rate : (link : Link) → has_bad_rate link ≡ is_none (ps_per_bit_of link.mbps)
  pub processing : (node : Node) → has_bad_processing node
      ≡ nat_lt (greatest_processing_of node.kind) (least_processing_of node.kind)
  pub kind : (kind : Kind) → is_kind_over kind
      ≡ (nat_lt 1000000 (greatest_processing_of kind) || nat_lt 1000000000 (residence_of kind)
      || nat_lt 1000 (clock_of kind).deviation_ppm || nat_lt 10000000 (clock_of kind).step_ps)
  pub node : (node : Node) → is_node_over node ≡ is_kind_over node.kind
  pub link : (link : Link) → is_link_over link ≡ nat_lt 1000000 link.propagation_ns
  pub all : (nodes : List Node) (links : List Link) → is_over nodes links
      ≡ (nat_lt 1024 (length nodes) || nat_lt 2048 (length links) || list_any is_node_over nodes
      || list_any is_link_over links)

-- of a stream over a topology the fault of its own rules comes first, and the limit by the clocks on its way, where it
-- breaks none of them
pub record RulesComeFirst : Type 0 where
  pub rules : (topology : DeclaredTopology) (most : ℕ) (given : List ℕ) (s : DeclaredStream) (fault : StreamFault)
      → stream_fault_within most given s ≡ Some fault → stream_fault_over topology most given s ≡ Some fault
  pub clocks : (topology : DeclaredTopology) (most : ℕ) (given : List ℕ) (s : DeclaredStream)
      → stream_fault_within most given s ≡ None → stream_fault_over topology most given s
      ≡ (if is_overrated topology (stream_sender s) then Some Limit else None)

pub record FaultsArePlain : Type 0 where
  pub names : NamesAreCompared
  pub numbers : NumbersAreCompared
  pub streams : RulesComeFirst
