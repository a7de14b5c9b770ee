use Rattle.std.specs.Prelude.{◌≡◌, ◌↔◌, ℕ, ◌<◌, ◌^◌, List, map, All, IsTrue, Some, None}
use Rattle.ats_num.specs.Name.{is_name}
use Rattle.ats_topology.specs.Faults.{topology_fault}
use Rattle.ats_topology.specs.Topology.{DeclaredTopology}
use Rattle.ats_topology.specs.declared.link.Link.{Link}
use Rattle.ats_topology.specs.declared.node.Node.{Node}
use Rattle.ats_streams.specs.Stream.{DeclaredStream}
use Rattle.ats_network.specs.Class.{class_at}
use Rattle.ats_network.specs.Listeners.{Listener, listeners_of}
use Rattle.ats_network.specs.Network.{DeclaredNetwork, senders_of}
use Rattle.ats_network.specs.Sender.{Sender, stream_sender}
use Rattle.ats_port_names.specs.Laws.{AreSound}
use Rattle.ats_certificate.specs.Certificate.{bound_of_hop, bound_on}
use Rattle.ats_certificate.specs.declared.row.Row.{Row}
use Rattle.ats_explain.specs.Margins.{margin_on}
use Rattle.ats_explain.specs.Parts.{parts_of_hop}
use Rattle.ats_explain.specs.declared.parts.Parts.{Parts}
use Rattle.ats_explain.specs.declared.parts.Stay.{Stay}
use Rattle.ats_text_law.specs.Explained.{AreAlike, HasShortLeg, HasShortParts, IsExplainable, IsNamed, IsShortHop}
use Rattle.ats_text_law.specs.Explained.{IsShortStay}
use Rattle.ats_text_law.specs.Short.{HasNames, HasShortBounds, IsShort}

-- What laws ask of networks and certificates whose texts tell all, and are read back, part by part, both ways. Refuses
-- a premise beside these, as that clocks are ideal, or that no route has more than 16 ports.

-- nodes and links that make a topology have names, and no fault, and nothing else is asked of them; and so of senders
pub record SoundnessIsMeant : Type 0 where
  pub nodes : (nodes : List Node) (links : List Link) → AreSound nodes links
      ↔ (All (λ (node : Node). IsTrue (is_name node.name)) nodes × (topology_fault nodes links ≡ None))
  pub names : (network : DeclaredNetwork) → HasNames network
      ↔ All (λ (s : Sender). IsTrue (is_name s.name)) (senders_of network)

-- the bounds and sums of a stream have at most 64 digits
pub record BoundsAreShort : Type 0 where
  pub number : (n : ℕ) → IsShort n ↔ (n < 10 ^ 64)
  pub bounds : (t : DeclaredTopology) (rows : List Row) (s : DeclaredStream) → HasShortBounds t rows s
      ↔ All (λ (l : Listener). All (λ port. bound_of_hop rows (stream_sender s) port < 10 ^ 64) l.leg
      × (bound_on rows s l.route < 10 ^ 64)) (listeners_of t s)

-- two networks are alike where their topologies are the same, and the names, ports and branches of their streams
pub record BeingAlikeIsMeant : Type 0 where
  pub alike : (one other : DeclaredNetwork) → AreAlike one other
      ↔ ((one.topology ≡ other.topology)
      × (map (λ (s : DeclaredStream). s.name) one.streams ≡ map (λ (s : DeclaredStream). s.name) other.streams)
      × (map (λ (s : DeclaredStream). s.ports) one.streams ≡ map (λ (s : DeclaredStream). s.ports) other.streams)
      × (map (λ (s : DeclaredStream). s.branches) one.streams
      ≡ map (λ (s : DeclaredStream). s.branches) other.streams))

-- each number that is explained of a hop has at most 64 digits, and each sender that is named a name
pub record ExplainedAreShort : Type 0 where
  pub parts : (parts : Parts) → HasShortParts parts
      ↔ ((parts.lower < 10 ^ 64) × IsNamed parts.sender × (parts.bursts < 10 ^ 64) × (parts.higher < 10 ^ 64)
      × (parts.frame < 10 ^ 64) × (parts.latency < 10 ^ 64) × (parts.bound < 10 ^ 64) × IsShortStay parts.stay)
  pub stay : (stay : Stay) → IsShortStay (Some stay) ↔ ((stay.need < 10 ^ 64) × (stay.residence < 10 ^ 64))
  pub no_stay : IsShortStay None
  pub name : (name : List ℕ) → IsNamed (Some name) ↔ IsTrue (is_name name)
  pub no_name : IsNamed None
  pub hop : (network : DeclaredNetwork) (s : DeclaredStream) (port : ℕ) → IsShortHop network s port
      ↔ ((class_at (stream_sender s) port < 10 ^ 64) × HasShortParts (parts_of_hop network s port))
  pub leg : (network : DeclaredNetwork) (s : DeclaredStream) (l : Listener) → HasShortLeg network s l
      ↔ (((margin_on network s l.route).sum < 10 ^ 64) × ((margin_on network s l.route).deadline < 10 ^ 64)
      × All (IsShortHop network s) l.leg)
  pub each : (network : DeclaredNetwork) (s : DeclaredStream) → IsExplainable network s
      ↔ All (HasShortLeg network s) (listeners_of network.topology s)

pub record PrintingIsMeant : Type 0 where
  pub sound : SoundnessIsMeant
  pub bounds : BoundsAreShort
  pub alike : BeingAlikeIsMeant
  pub explained : ExplainedAreShort
