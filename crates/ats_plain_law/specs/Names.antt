use Rattle.std.specs.Prelude.{◌≡◌, ℕ, ◌+◌, ◌*◌, ◌-◌, List, [], ◌∷◌, ◌++◌, length, map, codes, Some, None, unwrap_or}
use Rattle.std.specs.Prelude.{slice_index_or}
use Rattle.std.specs.List.{flat_map, position_from}
use Rattle.std.specs.Str.{bytes_eq}
use Rattle.ats_topology.specs.Faults.{no_link}
use Rattle.ats_topology.specs.Node as node
use Rattle.ats_topology.specs.Port.{no_port, port_at}
use Rattle.ats_topology.specs.Rates.{ps_per_bit_of}
use Rattle.ats_topology.specs.Topology.{link_at, link_ports, no_node, node_at, node_number, port_of, ports_of}
use Rattle.ats_topology.specs.Topology.{DeclaredTopology}
use Rattle.ats_topology.specs.declared.link.Link.{Link}
use Rattle.ats_topology.specs.declared.node.Node.{Node}
use Rattle.ats_topology.specs.declared.port.Port.{Port}
use Rattle.ats_streams.specs.Flow.{DeclaredFlow}
use Rattle.ats_streams.specs.Stream.{DeclaredStream}
use Rattle.ats_network.specs.Edits.{less_at, less_named}
use Rattle.ats_network.specs.Listeners.{end_of, listener_text, station_of}
use Rattle.ats_network.specs.Network.{DeclaredNetwork, names_of}
use Rattle.ats_network.specs.Sender.{Sender}
use Rattle.ats_network.specs.Senders.{sender_at}
use Rattle.ats_network.specs.Tables.{flow_names, stream_names}
use Rattle.ats_settings.specs.Settings.{port_at_place}

-- a node goes by its place among all nodes, whichever their kinds and names; and so do ports and links
pub record NumbersArePlain : Type 0 where
  pub names : (nodes : List Node) → node.names_of nodes ≡ map (λ (n : Node). n.name) nodes
  pub number : (nodes : List Node) (name : List ℕ) → node_number nodes name
      ≡ unwrap_or (position_from (bytes_eq name) 0 (map (λ (n : Node). n.name) nodes)) 0
  pub at : (nodes : List Node) (n : ℕ) → node_at nodes n ≡ slice_index_or nodes n no_node
  pub port : (ports : List Port) (p : ℕ) → port_at ports p ≡ slice_index_or ports p no_port
  pub link : (links : List Link) (i : ℕ) → link_at links i ≡ slice_index_or links i no_link

-- a link has two ports, from its first end to its second and then back, and ports come as links do; a port has the
-- rate of its link, and what the link and the node behind it may take
pub record LinksArePlain : Type 0 where
  pub ports : (nodes : List Node) (links : List Link) → ports_of nodes links ≡ flat_map (link_ports nodes) links
  pub both : (nodes : List Node) (link : Link) → link_ports nodes link
      ≡ port_of nodes link link.a link.b ∷ port_of nodes link link.b link.a ∷ []
  pub from : (nodes : List Node) (link : Link) (a b : List ℕ) → (port_of nodes link a b).from ≡ node_number nodes a
  pub to : (nodes : List Node) (link : Link) (a b : List ℕ) → (port_of nodes link a b).to ≡ node_number nodes b
  pub rate : (nodes : List Node) (link : Link) (a b : List ℕ) → (port_of nodes link a b).ps_per_bit
      ≡ unwrap_or (ps_per_bit_of link.mbps) 0
  pub earliest : (nodes : List Node) (link : Link) (a b : List ℕ) → (port_of nodes link a b).earliest.0
      ≡ 1000 * (link.propagation_ns + node.least_processing_of (node_at nodes (node_number nodes b)).kind)
  pub latency : (nodes : List Node) (link : Link) (a b : List ℕ) → (port_of nodes link a b).latency.0
      ≡ 1000 * (link.propagation_ns + node.greatest_processing_of (node_at nodes (node_number nodes b)).kind)

-- each stream and flow goes by its own name, however many listeners it has; the one that is withdrawn is the first of
-- that name, and the others stay; a listener goes by the node at which its route ends
pub record SendersAreNamed : Type 0 where
  pub streams : (streams : List DeclaredStream) → stream_names streams ≡ map (λ (s : DeclaredStream). s.name) streams
  pub flows : (flows : List DeclaredFlow) → flow_names flows ≡ map (λ (f : DeclaredFlow). f.name) flows
  pub senders : (senders : List Sender) → names_of senders ≡ map (λ (s : Sender). s.name) senders
  pub less : (streams : List DeclaredStream) (name : List ℕ) → less_named streams name
      ≡ less_at (position_from (bytes_eq name) 0 (map (λ (s : DeclaredStream). s.name) streams)) streams
  pub end : (ports : List Port) (route : List ℕ) → end_of ports route
      ≡ (port_at ports (slice_index_or route (length route - 1) 0)).to
  pub station : (topology : DeclaredTopology) (route : List ℕ) → station_of topology route
      ≡ (node_at topology.nodes (end_of topology.ports route)).name
  pub first : (stream : List ℕ) → listener_text stream None ≡ stream
  pub further : (stream station : List ℕ) → listener_text stream (Some station)
      ≡ stream ++ codes " " ++ station
  pub place : (network : DeclaredNetwork) (sender place : ℕ) → port_at_place network sender place
      ≡ slice_index_or (sender_at network sender).ports place 0

pub record NamesArePlain : Type 0 where
  pub numbers : NumbersArePlain
  pub links : LinksArePlain
  pub senders : SendersAreNamed
