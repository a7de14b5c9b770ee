use Rattle.std.specs.Prelude.{◌≡◌, ℕ, ◌+◌, ◌*◌, ◌<◌, ◌≤◌, ◌≢◌, IsTrue, IsSome, List, [], ◌∷◌, length, slice_index_or}
use Rattle.std.specs.Prelude.{unwrap_or, count_by, All, Option, Some, None, option_and_then, if◌then◌else◌}
use Rattle.std.specs.List.{flat_map}
use Rattle.ats_num.specs.Name.{name_of}
use Rattle.ats_num.specs.Places.{place_of}
use Rattle.ats_num.specs.declared.pace.TheConstants.{MAX_SPREAD}
use Rattle.ats_clock.specs.Clock.{IsClock, ideal}
use Rattle.ats_topology.specs.Node.{names_of, is_station, least_processing_of, greatest_processing_of, residence_of}
use Rattle.ats_topology.specs.Node.{AreApart, clock_of}
use Rattle.ats_topology.specs.Port.{port_at, leaves, leads_to, spread_of, IsBetween, ArePaired}
use Rattle.ats_topology.specs.Rates.{ps_per_bit_of, IsPsPerBit}
use Rattle.ats_topology.specs.Faults.{no_link}
use Rattle.ats_topology.specs.Link.{ends_at}
use Rattle.ats_topology.specs.declared.node.Node.{Node}
use Rattle.ats_topology.specs.declared.node.Kind.TheVariants.{Station}
use Rattle.ats_topology.specs.declared.link.Link.{Link}
use Rattle.ats_topology.specs.declared.port.Port.{Port}
use Rattle.ats_topology.specs.declared.node.TheConstants.{MAX_NODES, MAX_PROCESSING_NS, MAX_RESIDENCE_NS}
use Rattle.ats_topology.specs.declared.link.TheConstants.{MAX_LINKS, MAX_PROPAGATION_NS}

-- the number of the node with this name, where there is one
abbrev pub node_number : List Node → List ℕ → ℕ
node_number nodes name = unwrap_or (place_of name (names_of nodes)) 0

-- for numbers past the end of a list of nodes
abbrev pub no_node : Node
no_node = record { name = []; kind = Station }

-- the node with a number
abbrev pub node_at : List Node → ℕ → Node
node_at nodes n = slice_index_or nodes n no_node

-- the port of a link from the node with the first name to the one with the second; its latency, in picoseconds, is the
-- propagation of the link and the greatest processing of the node that it leads to, and its earliest latency the same
-- with the least processing
abbrev pub port_of : List Node → Link → List ℕ → List ℕ → Port
port_of nodes link a b = record {
  from = node_number nodes a;
  to = node_number nodes b;
  ps_per_bit = unwrap_or (ps_per_bit_of link.mbps) 0;
  earliest = record {
    0 = 1000 * (link.propagation_ns + least_processing_of (node_at nodes (node_number nodes b)).kind);
  };
  latency = record {
    0 = 1000 * (link.propagation_ns + greatest_processing_of (node_at nodes (node_number nodes b)).kind);
  };
}

-- the two ports of a link: from its first end to its second, and back
abbrev pub link_ports : List Node → Link → List Port
link_ports nodes link = port_of nodes link link.a link.b ∷ port_of nodes link link.b link.a ∷ []

-- the ports of links, two to a link in their order
abbrev pub ports_of : List Node → List Link → List Port
ports_of nodes links = flat_map (link_ports nodes) links

-- what a topology is seen as: its nodes, its links, and their ports
pub record DeclaredTopology : Type 0 where
  pub nodes : List Node
  pub links : List Link
  pub ports : List Port

-- the number is that of a station
pub record IsStationAt (topology : DeclaredTopology) (node : ℕ) : Type 0 where
  pub within : node < length topology.nodes
  pub station : IsTrue (is_station (node_at topology.nodes node).kind)

-- the number of a node, where it is a station
abbrev pub if_station : DeclaredTopology → ℕ → Option ℕ
if_station topology node = if is_station (node_at topology.nodes node).kind then Some node else None

-- the number of the station that a word names, if it names one
abbrev pub station_named : DeclaredTopology → List ℕ → Option ℕ
station_named topology word =
    option_and_then (if_station topology)
    (option_and_then (λ name. place_of name (names_of topology.nodes)) (name_of word))

-- the topology of nodes and links
abbrev pub topology_of : List Node → List Link → DeclaredTopology
topology_of nodes links = record { nodes = nodes; links = links; ports = ports_of nodes links }

-- each of these nodes goes by the ideal clock
abbrev pub AreIdeal : List Node → Type 0
AreIdeal nodes = All (λ (node : Node). clock_of node.kind ≡ ideal) nodes

-- so does each node of a topology
abbrev pub HasIdealClocks : DeclaredTopology → Type 0
HasIdealClocks topology = AreIdeal topology.nodes

-- the link with a number, counted from 0
abbrev pub link_at : List Link → ℕ → Link
link_at links i = slice_index_or links i no_link

-- what each node of a topology keeps: its times and its clock are within their limits, and its least processing is at
-- most its greatest
pub record IsNode (node : Node) : Type 0 where
  pub ordered : least_processing_of node.kind ≤ greatest_processing_of node.kind
  pub processing : greatest_processing_of node.kind ≤ MAX_PROCESSING_NS
  pub residence : residence_of node.kind ≤ MAX_RESIDENCE_NS
  pub clock : IsClock (clock_of node.kind)

-- what each link keeps: its ends are different names of nodes, a link may have its rate, and its time is within its
-- limit
pub record IsLink (nodes : List Node) (link : Link) : Type 0 where
  pub a : IsSome (place_of link.a (names_of nodes))
  pub b : IsSome (place_of link.b (names_of nodes))
  pub differ : link.a ≢ link.b
  pub rate : IsSome (ps_per_bit_of link.mbps)
  pub propagation : link.propagation_ns ≤ MAX_PROPAGATION_NS

-- what each port between so many nodes keeps: its ends are two of them, and its times are those of a link and a node
pub record IsPort (nodes : ℕ) (port : Port) : Type 0 where
  pub between : IsBetween nodes port
  pub differ : port.from ≢ port.to
  pub rate : IsPsPerBit port.ps_per_bit
  pub ordered : port.earliest.0 ≤ port.latency.0
  pub latency : port.latency.0 ≤ 2000000000
  pub spread : spread_of port ≤ MAX_SPREAD

-- link i has port 2 * i from its first end to its second, and port 2 * i + 1 back
pub record HasPorts (topology : DeclaredTopology) (i : ℕ) : Type 0 where
  pub there : port_at topology.ports (2 * i)
      ≡ port_of topology.nodes (link_at topology.links i) (link_at topology.links i).a (link_at topology.links i).b
  pub back : port_at topology.ports (2 * i + 1)
      ≡ port_of topology.nodes (link_at topology.links i) (link_at topology.links i).b (link_at topology.links i).a

-- exactly one port leaves the node, and exactly one leads to it
pub record HasOnePort (ports : List Port) (node : ℕ) : Type 0 where
  pub leaves : count_by (leaves node) ports ≡ 1
  pub leads : count_by (leads_to node) ports ≡ 1

-- exactly one link ends at the node
abbrev pub HasOneLink : List Link → Node → Type 0
HasOneLink links node = count_by (ends_at node.name) links ≡ 1

-- what each topology keeps: its ports are those of its links, no two nodes have one name, there are not too many nodes
-- and links, each is within its rules, and each station has one link
pub record IsTopology (topology : DeclaredTopology) : Type 0 where
  pub numbered : topology.ports ≡ ports_of topology.nodes topology.links
  pub names : AreApart (names_of topology.nodes)
  pub few_nodes : length topology.nodes ≤ MAX_NODES
  pub few_links : length topology.links ≤ MAX_LINKS
  pub each_node : All IsNode topology.nodes
  pub each_link : All (IsLink topology.nodes) topology.links
  pub stations : All (λ (node : Node). IsTrue (is_station node.kind) → HasOneLink topology.links node) topology.nodes

-- what the ports of a topology keep: there are two for each link, in the order of the links, each within its rules and
-- with one that leads back, and one port leaves each station and one leads to it
pub record HasLawfulPorts (topology : DeclaredTopology) : Type 0 where
  pub two_each : length topology.ports ≡ 2 * length topology.links
  pub each : All (IsPort (length topology.nodes)) topology.ports
  pub link_ports : (i : ℕ) → i < length topology.links → HasPorts topology i
  pub stations : (n : ℕ) → n < length topology.nodes → IsTrue (is_station (node_at topology.nodes n).kind)
      → HasOnePort topology.ports n
  pub paired : ArePaired topology.ports
