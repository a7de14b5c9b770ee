use Rattle.std.specs.Prelude.{◌≡◌, ◌↔◌, ℕ, ◌+◌, ◌*◌, ◌<◌, IsTrue, false, List, sum_by, All, Option, Some, None}
use Rattle.ats_num.specs.declared.time.TheConstants.{PS_PER_NS}
use Rattle.ats_clock.specs.Clock.{declared_clock}
use Rattle.ats_topology.specs.Port.{port_at, spread_of}
use Rattle.ats_topology.specs.Topology.{node_at}
use Rattle.ats_topology.specs.declared.node.Kind.{Kind}
use Rattle.ats_topology.specs.declared.node.Kind.TheVariants.{Station, Bridge}
use Rattle.ats_streams.specs.Branches.{routes_of}
use Rattle.ats_streams.specs.Stream.{DeclaredStream}
use Rattle.ats_network.specs.Sender.{Sender, stream_sender}
use Rattle.ats_network.specs.Class.{class_at, seen_at}
use Rattle.ats_network.specs.Network.{DeclaredNetwork, IsNetwork, senders_of}
use Rattle.ats_certificate.specs.PortSums.{longest, port_sums, uses}
use Rattle.ats_certificate.specs.Used.{places_of}
use Rattle.ats_certificate.specs.Certificate.{Holds, need_by}
use Rattle.ats_certificate.specs.Least.{IsLeastRow}
use Rattle.ats_certificate.specs.declared.row.Row.{Row}
use Rattle.ats_tally.specs.Reason.{first_some}
use Rattle.ats_bound.specs.First.{IsFirstBreach}
use Rattle.ats_bound.specs.Reason.{overload}
use Rattle.ats_explain.specs.Senders.{sends_lower}
use Rattle.ats_explain.specs.Parts.{parts_of_hop}
use Rattle.ats_explain.specs.Margins.{margin_on}
use Rattle.ats_explain.specs.Totals.{late_count, over_count}
use Rattle.ats_explain.specs.declared.parts.Parts.{Parts}
use Rattle.ats_explain.specs.declared.parts.Stay.{Stay}

-- no port and class that some stream uses is overloaded
abbrev pub Carries : DeclaredNetwork → Type 0
Carries network = first_some (overload network) (places_of network) ≡ None

-- the five parts are together the bound
abbrev pub AddUp : Parts → Type 0
AddUp parts = parts.lower + parts.bursts + parts.higher + parts.frame + parts.latency ≡ parts.bound

-- the first of a network's senders that uses a port, is of a lower class than this one there, and whose longest frame
-- has as many bits as the longest of a lower class, has this name
pub record SendsLongest (network : DeclaredNetwork) (port class : ℕ) (name : List ℕ) : Type 0 where
  pub sender : Sender
  pub named : sender.name ≡ name
  pub uses : IsTrue (uses port sender)
  pub lower : (seen_at network.topology port sender).class < class
  pub longest : longest (seen_at network.topology port sender) ≡ (port_sums network port class).lower
  pub first : IsFirstBreach
      (λ s. sends_lower network.topology port class (port_sums network port class).lower s ≡ false)
      (senders_of network) sender

-- a name is that of such a sender; where there is no name, there is none
abbrev pub IsOfLongest : DeclaredNetwork → ℕ → ℕ → Option (List ℕ) → Type 0
IsOfLongest network port class (Some name) = SendsLongest network port class name
IsOfLongest network port class None =
    All (λ s. sends_lower network.topology port class (port_sums network port class).lower s ≡ false)
    (senders_of network)

-- what the node is that a port leads to
abbrev pub kind_behind : DeclaredNetwork → ℕ → Kind
kind_behind network port = (node_at network.topology.nodes (port_at network.topology.ports port).to).kind

-- a port leads to a bridge. A frame that may have to wait so long at the port may have to stay there as much longer as
-- the port's spread, and by the bridge's clock as long as this counts then at most; it may stay as long as the bridge's
-- maximum residence time
pub record IsStayBehind (network : DeclaredNetwork) (port wait : ℕ) (told : Stay) : Type 0 where
  pub processing_min_ns : ℕ
  pub processing_max_ns : ℕ
  pub residence_ns : ℕ
  pub clock_ppm : ℕ
  pub clock_step_ps : ℕ
  pub bridge : kind_behind network port
      ≡ Bridge processing_min_ns processing_max_ns residence_ns clock_ppm clock_step_ps
  pub need : told.need ≡ need_by (declared_clock clock_ppm clock_step_ps)
      (wait + spread_of (port_at network.topology.ports port))
  pub residence : told.residence ≡ PS_PER_NS * residence_ns

-- a stay is told of each port that leads to a bridge, whether frames go on from there or not, and none of one that
-- leads to a station
abbrev pub IsStayOf : DeclaredNetwork → ℕ → ℕ → Option Stay → Type 0
IsStayOf network port wait (Some told) = IsStayBehind network port wait told
IsStayOf network port wait None = kind_behind network port ≡ Station

-- the parts of a port and a class, each by what it stands for, of the row with the least wait that is enough. lower:
-- the time of the longest frame of a lower class; frame: that of the shortest frame of the class; bursts: with this
-- frame, the time of the bursts of the class and the higher ones; higher: the rest of the wait; latency: the port's.
-- Beside them stands the stay behind the port
pub record AreParts (network : DeclaredNetwork) (port class : ℕ) (parts : Parts) : Type 0 where
  pub row : Row
  pub least : IsLeastRow network row
  pub port_is : row.port ≡ port
  pub class_is : row.class ≡ class
  pub lower : parts.lower ≡ (port_at network.topology.ports port).ps_per_bit * row.lower
  pub frame : parts.frame ≡ (port_at network.topology.ports port).ps_per_bit * row.least
  pub bursts : parts.bursts + parts.frame ≡ (port_at network.topology.ports port).ps_per_bit * row.bursts
  pub higher : parts.lower + parts.bursts + parts.higher ≡ row.wait
  pub latency : parts.latency ≡ (port_at network.topology.ports port).latency.0
  pub bound_is : parts.bound ≡ row.bound
  pub add_up : AddUp parts
  pub sender : IsOfLongest network port class parts.sender
  pub stay : IsStayOf network port row.wait parts.stay

-- at each hop of a stream the parts are those of the port, in the class that the stream has there; they add up to the
-- bound, and the bounds along the route to each listener to the sum for it
pub record StreamAddsUp (network : DeclaredNetwork) (stream : DeclaredStream) : Type 0 where
  pub parts : All (λ port. AreParts network port (class_at (stream_sender stream) port)
      (parts_of_hop network stream port)) stream.ports
  pub sum : All (λ route. sum_by (λ port. (parts_of_hop network stream port).bound) route
      ≡ (margin_on network stream route).sum) (routes_of stream.ports stream.branches)

-- so for each stream of a network without an overload
abbrev pub EachStreamAddsUp : Type 0
EachStreamAddsUp = (network : DeclaredNetwork) → IsNetwork network → Carries network
    → All (StreamAddsUp network) network.streams

-- no stream is late for any of its listeners, and no frame may have to stay at a hop longer than it may
pub record IsClear (network : DeclaredNetwork) : Type 0 where
  pub in_time : late_count network ≡ 0
  pub stay : over_count network ≡ 0

-- so it is exactly where some certificate of the network holds
abbrev pub ClearWhereOneHolds : Type 0
ClearWhereOneHolds = (network : DeclaredNetwork) → IsNetwork network → Carries network
    → IsClear network ↔ ((rows : List Row) × Holds network rows)
