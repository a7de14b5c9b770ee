use Rattle.std.specs.Prelude.{◌≡◌, ◌↔◌, ℕ, ◌<◌, ◌≤◌, ◌==◌, ◌&&◌, true, false, if◌then◌else◌, List, [], ◌∷◌, ◌++◌}
use Rattle.std.specs.Prelude.{length, Some, None, codes, decimal}
use Rattle.std.specs.List.{enumerate_from, flat_map, list_all, range_with_len}
use Rattle.ats_clock.specs.declared.committed.Committed.{Committed}
use Rattle.ats_topology.specs.Port.{port_at}
use Rattle.ats_topology.specs.Topology.{DeclaredTopology, node_at}
use Rattle.ats_topology.specs.declared.port.Port.{Port}
use Rattle.ats_port_names.specs.PortName.{name_of, port_name}
use Rattle.ats_streams.specs.Branches.{leg_at, legs_of, routes_of}
use Rattle.ats_streams.specs.Flow.{DeclaredFlow}
use Rattle.ats_streams.specs.Stream.{DeclaredStream}
use Rattle.ats_network.specs.Class.{port_before}
use Rattle.ats_network.specs.Listeners.{station_of}
use Rattle.ats_network.specs.Network.{DeclaredNetwork}
use Rattle.ats_network.specs.Rates.{committed_at, scheduled_at}
use Rattle.ats_network.specs.Sender.{Sender, stream_sender}
use Rattle.ats_network_text.specs.Text.{classes_text, flow_line, hop_is_declared, hop_text, is_declared, listener_line}
use Rattle.ats_network_text.specs.Text.{port_line, rates_line, show_text, stream_line, stream_text}

-- a port goes by its two nodes, `FROM>TO`; and its line gives its number, this name, what a bit takes there, and its
-- latency: one number, or two where it may be less
pub record PortsAreWritten : Type 0 where
  pub name : (t : DeclaredTopology) (port : Port) → name_of t port
      ≡ (node_at t.nodes port.from).name ++ codes ">" ++ (node_at t.nodes port.to).name
  pub by_number : (t : DeclaredTopology) (p : ℕ) → port_name t p
      ≡ (node_at t.nodes (port_at t.ports p).from).name ++ codes ">"
      ++ (node_at t.nodes (port_at t.ports p).to).name
  pub one_latency : (t : DeclaredTopology) (n : ℕ) (port : Port) → port.latency.0 ≤ port.earliest.0
      → port_line t (n, port)
      ≡ codes "port " ++ decimal n ++ codes " " ++ name_of t port ++ codes " " ++ decimal port.ps_per_bit ++ codes " "
      ++ decimal port.latency.0 ++ codes "\n"
  pub two_latencies : (t : DeclaredTopology) (n : ℕ) (port : Port) → port.earliest.0 < port.latency.0
      → port_line t (n, port)
      ≡ codes "port " ++ decimal n ++ codes " " ++ name_of t port ++ codes " " ++ decimal port.ps_per_bit ++ codes " "
      ++ decimal port.latency.0 ++ codes " " ++ decimal port.earliest.0 ++ codes "\n"

-- the line of a stream gives its name, the class and the ports of its trunk, that of a further listener the name and
-- the station, the class and the ports of its branch, and that of a flow its name, the class 0 and its ports; where the
-- classes of a leg differ, each of them is given, and of no ports none
pub record SendersAreShown : Type 0 where
  pub no_class : classes_text [] ≡ []
  pub classes : (class : ℕ) (classes : List ℕ) → classes_text (class ∷ classes)
      ≡ (if list_all (λ c. c == class) classes then decimal class
      else (decimal class ++ flat_map (λ c. codes "," ++ decimal c) classes))
  pub stream : (t : DeclaredTopology) (s : DeclaredStream) → stream_line t s
      ≡ codes "stream " ++ s.name ++ codes " " ++ classes_text (leg_at (legs_of s.classes s.branches) 0)
      ++ flat_map (λ p. codes " " ++ port_name t p) (leg_at (legs_of s.ports s.branches) 0) ++ codes "\n"
  pub listener : (t : DeclaredTopology) (s : DeclaredStream) (leg : ℕ) → listener_line t s leg
      ≡ codes "listener " ++ s.name ++ codes " " ++ station_of t (leg_at (routes_of s.ports s.branches) leg)
      ++ codes " " ++ classes_text (leg_at (legs_of s.classes s.branches) leg)
      ++ flat_map (λ p. codes " " ++ port_name t p) (leg_at (legs_of s.ports s.branches) leg) ++ codes "\n"
  pub flow : (t : DeclaredTopology) (f : DeclaredFlow) → flow_line t f
      ≡ codes "flow " ++ f.name ++ codes " 0" ++ flat_map (λ p. codes " " ++ port_name t p) f.path ++ codes "\n"

-- a stream has a line of rates where one of its ports sees another rate or burst than it declares, or a scheduler on
-- the way there has another: of each port behind another one what the scheduler has and what the port sees, and of the
-- first what it sees, where that is not as declared
pub record RatesAreShown : Type 0 where
  pub as_declared : (s : Sender) (c : Committed) → (is_declared s c ≡ true)
      ↔ ((c.rate ≡ s.rate) × (c.burst_bits ≡ s.burst_bits))
  pub first : (t : DeclaredTopology) (s : Sender) (port : ℕ) → port_before s port ≡ None
      → hop_is_declared t s port ≡ is_declared s (committed_at t port s)
  pub later : (t : DeclaredTopology) (s : Sender) (port before : ℕ) → port_before s port ≡ Some before
      → hop_is_declared t s port
      ≡ (is_declared s (scheduled_at t before s) && is_declared s (committed_at t port s))
  pub none_first : (t : DeclaredTopology) (s : Sender) (port : ℕ) → port_before s port ≡ None
      → is_declared s (committed_at t port s) ≡ true → hop_text t s port ≡ []
  pub told_first : (t : DeclaredTopology) (s : Sender) (port : ℕ) → port_before s port ≡ None
      → is_declared s (committed_at t port s) ≡ false → hop_text t s port
      ≡ codes " " ++ decimal (committed_at t port s).rate ++ codes ":" ++ decimal (committed_at t port s).burst_bits
  pub told_later : (t : DeclaredTopology) (s : Sender) (port before : ℕ) → port_before s port ≡ Some before
      → hop_text t s port
      ≡ codes " " ++ decimal (scheduled_at t before s).rate ++ codes ":"
      ++ decimal (scheduled_at t before s).burst_bits ++ codes " " ++ decimal (committed_at t port s).rate ++ codes ":"
      ++ decimal (committed_at t port s).burst_bits
  pub no_line : (t : DeclaredTopology) (s : Sender) → list_all (hop_is_declared t s) s.ports ≡ true
      → rates_line t s ≡ []
  pub line : (t : DeclaredTopology) (s : Sender) → list_all (hop_is_declared t s) s.ports ≡ false
      → rates_line t s ≡ codes "rates " ++ s.name ++ flat_map (hop_text t s) s.ports ++ codes "\n"

-- `show` prints all ports by number, then each stream with its further listeners and its rates, then the flows, and how
-- many there are of each
pub record ShowIsWritten : Type 0 where
  pub ports : PortsAreWritten
  pub senders : SendersAreShown
  pub rates : RatesAreShown
  pub stream : (t : DeclaredTopology) (s : DeclaredStream) → stream_text t s
      ≡ stream_line t s ++ flat_map (listener_line t s) (range_with_len 1 (length s.branches))
      ++ rates_line t (stream_sender s)
  pub all : (network : DeclaredNetwork) → show_text network
      ≡ flat_map (port_line network.topology) (enumerate_from 0 network.topology.ports)
      ++ flat_map (stream_text network.topology) network.streams
      ++ flat_map (flow_line network.topology) network.flows
      ++ codes "total ports " ++ decimal (length network.topology.ports)
      ++ codes " streams " ++ decimal (length network.streams)
      ++ codes " flows " ++ decimal (length network.flows) ++ codes "\n"
