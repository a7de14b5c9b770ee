use Rattle.std.specs.Prelude.{◌≡◌, ℕ, ◌+◌, ◌-◌, ◌*◌, ◌==◌, ◌&&◌, nat_lt, false, find, Some, None}
use Rattle.std.specs.List.{list_any}
use Rattle.std.specs.Option.{option_map}
use Rattle.ats_num.specs.Wire.{bits_of}
use Rattle.ats_topology.specs.Port.{port_at}
use Rattle.ats_streams.specs.Stream.{DeclaredStream}
use Rattle.ats_network.specs.Class.{class_at}
use Rattle.ats_network.specs.Network.{DeclaredNetwork, senders_of}
use Rattle.ats_network.specs.Residence.{residence_after}
use Rattle.ats_network.specs.Sender.{Sender, stream_sender}
use Rattle.ats_certificate.specs.Certificate.{need_behind}
use Rattle.ats_certificate.specs.PortSums.{port_sums, uses}
use Rattle.ats_bound.specs.Least.{least_row}
use Rattle.ats_explain.specs.Loads.{has_stream, port_load, rate_at}
use Rattle.ats_explain.specs.Parts.{is_over, parts_at, parts_of_hop}

-- the bound of a port and a class, by its least row, is cut into the time of the longest lower frame, that of all
-- bursts less the shortest frame, the rest of the wait, the time of the shortest frame, and the latency; and the first
-- sender is named that may have sent that longest lower frame
pub record PartsOfBounds : Type 0 where
  pub lower : (network : DeclaredNetwork) (port class : ℕ) → (parts_at network port class).lower
      ≡ (port_at network.topology.ports port).ps_per_bit * (port_sums network port class).lower
  pub bursts : (network : DeclaredNetwork) (port class : ℕ) → (parts_at network port class).bursts
      ≡ (port_at network.topology.ports port).ps_per_bit
      * ((port_sums network port class).bursts - (port_sums network port class).least)
  pub higher : (network : DeclaredNetwork) (port class : ℕ) → (parts_at network port class).higher
      ≡ (least_row network (port, class)).wait
      - ((parts_at network port class).lower + (parts_at network port class).bursts)
  pub frame : (network : DeclaredNetwork) (port class : ℕ) → (parts_at network port class).frame
      ≡ (port_at network.topology.ports port).ps_per_bit * (port_sums network port class).least
  pub latency : (network : DeclaredNetwork) (port class : ℕ) → (parts_at network port class).latency
      ≡ (port_at network.topology.ports port).latency.0
  pub bound : (network : DeclaredNetwork) (port class : ℕ) → (parts_at network port class).bound
      ≡ (least_row network (port, class)).bound
  pub sender : (network : DeclaredNetwork) (port class : ℕ) → (parts_at network port class).sender
      ≡ option_map (λ (s : Sender). s.name)
      (find (λ (s : Sender). uses port s
      && (nat_lt (class_at s port) class && bits_of s.max_octets == (port_sums network port class).lower))
      (senders_of network))

-- behind a port that leads to a bridge stands how long a frame may have to stay there, by the clock there, beside how
-- long it may; behind one that leads to a station no stay is told, and none that is not told is too long
pub record StaysOfPorts : Type 0 where
  pub station : (network : DeclaredNetwork) (port class : ℕ) → residence_after network.topology port ≡ None
      → (parts_at network port class).stay ≡ None
  pub bridge : (network : DeclaredNetwork) (port class ns : ℕ) → residence_after network.topology port ≡ Some ns
      → (parts_at network port class).stay
      ≡ Some (record { need = need_behind network port (least_row network (port, class)).wait; residence = 1000 * ns })
  pub none_is_over : is_over None ≡ false

-- a hop of a stream is told in the class that the stream has at the port. A port is told where some stream has it, with
-- the part of each second that the rates of its streams take of it
pub record HopsAndLoads : Type 0 where
  pub hop : (network : DeclaredNetwork) (s : DeclaredStream) (port : ℕ) → parts_of_hop network s port
      ≡ parts_at network port (class_at (stream_sender s) port)
  pub has : (network : DeclaredNetwork) (port : ℕ) → has_stream network port
      ≡ list_any (λ (s : DeclaredStream). list_any (λ p. p == port) s.ports) network.streams
  pub load : (network : DeclaredNetwork) (port : ℕ) → port_load network port
      ≡ (port_at network.topology.ports port).ps_per_bit * rate_at network port

pub record PartsAreReckoned : Type 0 where
  pub bounds : PartsOfBounds
  pub stays : StaysOfPorts
  pub hops : HopsAndLoads
