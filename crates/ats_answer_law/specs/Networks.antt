use Rattle.std.specs.Prelude.{◌≡◌, ◌≢◌, ◌↔◌, ◌⊎◌, ℕ, ◌<◌, ◌≤◌, ◌^◌, IsTrue, List, length, sum_by, Contains, Some}
use Rattle.std.specs.Prelude.{Ok, slice_get}
use Rattle.ats_topology.specs.Node.{clock_of, greatest_processing_of, is_station, least_processing_of, residence_of}
use Rattle.ats_topology.specs.Topology.{DeclaredTopology, HasIdealClocks, node_at}
use Rattle.ats_topology.specs.declared.node.Node.{Node}
use Rattle.ats_topology.specs.declared.link.Link.{Link}
use Rattle.ats_streams.specs.Branches.{routes_of}
use Rattle.ats_streams.specs.Flow.{DeclaredFlow}
use Rattle.ats_streams.specs.Stream.{DeclaredStream, IsDeadline, IsIdentity}
use Rattle.ats_network.specs.Ends.{beginning_of}
use Rattle.ats_network.specs.Listeners.{end_of}
use Rattle.ats_network.specs.Network.{AreIdentified, DeclaredNetwork, IsNetwork, senders_of}
use Rattle.ats_network_file.specs.Reading.{IsBeforeFormat3, network_of}
use Rattle.ats_network_file.specs.Stations.{JoinStations}
use Rattle.ats_trace.specs.Talker.{talker_of}
use Rattle.ats_soundness_law.specs.Sound.{BeginAtStations}

-- What words come to that say what a network is: which nodes are stations, whose clocks are ideal, and what each
-- network keeps. Laws have some of them as premises alone, and others in conclusions alone. It is said in the words
-- below them, so that the former can ask no more, and the latter say no less.

-- the node with a number is there, and a station
abbrev pub IsOneOfStations : DeclaredTopology → ℕ → Type 0
IsOneOfStations topology node =
    (node < length topology.nodes) × IsTrue (is_station (node_at topology.nodes node).kind)

-- so is each talker, wherever the routes end; and so are both ends of each route of each stream, and of the path of
-- each flow. Clocks are ideal where no node declares a deviation or a step, whatever else it is and declares; so they
-- are in files of formats 1 and 2
pub record StationsAreMeant : Type 0 where
  pub begin : (network : DeclaredNetwork) → BeginAtStations network
      ↔ ((i : ℕ) → i < length (senders_of network) → IsOneOfStations network.topology (talker_of network i))
  pub join : (network : DeclaredNetwork) → JoinStations network
      ↔ (((s : DeclaredStream) → Contains network.streams s
      → (route : List ℕ) → Contains (routes_of s.ports s.branches) route
      → IsOneOfStations network.topology (beginning_of network.topology.ports route)
      × IsOneOfStations network.topology (end_of network.topology.ports route))
      × ((f : DeclaredFlow) → Contains network.flows f
      → IsOneOfStations network.topology (beginning_of network.topology.ports f.path)
      × IsOneOfStations network.topology (end_of network.topology.ports f.path)))
  pub clocks : (topology : DeclaredTopology) → HasIdealClocks topology
      ↔ ((node : Node) → Contains topology.nodes node
      → ((clock_of node.kind).deviation_ppm ≡ 0) × ((clock_of node.kind).step_ps ≡ 0))
  pub before_format_3 : (bytes : List ℕ) (network : DeclaredNetwork) → IsBeforeFormat3 bytes
      → network_of bytes ≡ Ok network → HasIdealClocks network.topology

-- of two of these streams that each have an identity, these are different
abbrev pub HaveOwnIdentities : List DeclaredStream → Type 0
HaveOwnIdentities streams = (i j : ℕ) (one other : DeclaredStream) → i < j
    → slice_get streams i ≡ Some one → slice_get streams j ≡ Some other
    → (address vlan : ℕ) → one.identity ≡ Some (address, vlan) → other.identity ≢ Some (address, vlan)

-- the numbers of a network: of its nodes and links, of its streams, of their ports together, of its flows and of the
-- ports of a route; of each node the processing times, the residence time and what its clock deviates and steps by; of
-- each link the propagation; of each stream the deadline, and the address and the VLAN identifier, where it has them.
-- Times are in nanoseconds, but for a step, in picoseconds
pub record IsWithinLimits (network : DeclaredNetwork) : Type 0 where
  pub few_nodes : length network.topology.nodes ≤ 1024
  pub few_links : length network.topology.links ≤ 2048
  pub processing : (node : Node) → Contains network.topology.nodes node
      → (least_processing_of node.kind ≤ greatest_processing_of node.kind)
      × (greatest_processing_of node.kind ≤ 1000000)
  pub residences : (node : Node) → Contains network.topology.nodes node → residence_of node.kind ≤ 1000000000
  pub clocks : (node : Node) → Contains network.topology.nodes node
      → ((clock_of node.kind).deviation_ppm ≤ 1000) × ((clock_of node.kind).step_ps ≤ 10000000)
  pub propagation : (link : Link) → Contains network.topology.links link → link.propagation_ns ≤ 1000000
  pub few_streams : length network.streams ≤ 4096
  pub few_ports : sum_by (λ (s : DeclaredStream). length s.ports) network.streams ≤ 65536
  pub few_flows : length network.flows ≤ 4096
  pub most_ports : (network.most_ports ≡ 16) ⊎ (network.most_ports ≡ 64)
  pub deadlines : (s : DeclaredStream) → Contains network.streams s
      → (1 ≤ s.deadline_ns) × (s.deadline_ns ≤ 1000000000)
  pub identities : (s : DeclaredStream) → Contains network.streams s
      → (address vlan : ℕ) → s.identity ≡ Some (address, vlan)
      → (address < 2 ^ 48) × ((1 ≤ vlan) × (vlan ≤ 4094))

-- each network keeps these, and no two of its streams have one identity
pub record RulesAreMeant : Type 0 where
  pub limits : (network : DeclaredNetwork) → IsNetwork network → IsWithinLimits network
  pub own : (network : DeclaredNetwork) → IsNetwork network → HaveOwnIdentities network.streams
  pub identified : (streams : List DeclaredStream) → AreIdentified streams ↔ HaveOwnIdentities streams
  pub deadline : (deadline_ns : ℕ) → IsDeadline deadline_ns ↔ ((1 ≤ deadline_ns) × (deadline_ns ≤ 1000000000))
  pub identity : (address vlan : ℕ) → IsIdentity address vlan
      ↔ ((address < 2 ^ 48) × ((1 ≤ vlan) × (vlan ≤ 4094)))

-- of all of these
pub record NetworksAreMeant : Type 0 where
  pub stations : StationsAreMeant
  pub rules : RulesAreMeant
