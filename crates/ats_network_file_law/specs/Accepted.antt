use Rattle.std.specs.Prelude.{◌≡◌, ◌↔◌, ◌⊎◌, ℕ, List, length, AllPairs, None}
use Rattle.ats_topology.specs.Faults.{topology_fault}
use Rattle.ats_topology.specs.Topology.{IsTopology, topology_of}
use Rattle.ats_topology.specs.declared.link.Link.{Link}
use Rattle.ats_topology.specs.declared.node.Node.{Node}
use Rattle.ats_streams.specs.Flow.{DeclaredFlow, IsFlow, flow_fault, flow_fault_within}
use Rattle.ats_streams.specs.Stream.{DeclaredStream, IsStream, classes_for, stream_fault, stream_fault_within}
use Rattle.ats_network.specs.Network.{DeclaredNetwork, IsNetwork}
use Rattle.ats_network.specs.Pushes.{flow_push_fault, stream_push_fault, with_flow, with_stream}
use Rattle.ats_network_file.specs.Senders.{stream_fault_over}

-- No more is asked of the nodes and links of a file than what each topology keeps and that no two links join the same
-- nodes; and of a stream or a flow no more than what each network keeps.

-- two links join the same nodes, in one direction or the other
abbrev pub JoinTheSame : Link → Link → Type 0
JoinTheSame link other = ((link.a ≡ other.a) × (link.b ≡ other.b)) ⊎ ((link.a ≡ other.b) × (link.b ≡ other.a))

-- no two of these links do
abbrev pub JoinOnce : List Link → Type 0
JoinOnce links = AllPairs (λ (link other : Link). ¬ JoinTheSame link other) links

-- nodes and links have no fault exactly where they make a topology and no two links join the same nodes
abbrev pub TopologiesAreAccepted : Type 0
TopologiesAreAccepted = (nodes : List Node) (links : List Link)
    → topology_fault nodes links ≡ None ↔ IsTopology (topology_of nodes links) × JoinOnce links

-- a stream that a network may have as its last breaks no rule, whichever list gives it its classes, and nothing keeps
-- it from being added
pub record StreamIsTaken (network : DeclaredNetwork) (given : List ℕ) (stream : DeclaredStream) : Type 0 where
  pub over : stream_fault_over network.topology network.most_ports given stream ≡ None
  pub within : stream_fault_within network.most_ports given stream ≡ None
  pub added : stream_push_fault network stream ≡ None

-- the same of a flow
pub record FlowIsTaken (network : DeclaredNetwork) (flow : DeclaredFlow) : Type 0 where
  pub within : flow_fault_within network.most_ports flow ≡ None
  pub added : flow_push_fault network flow ≡ None

-- what each stream and each flow keeps is no fault; and what a network keeps with one of them more, none there
pub record SendersAreAccepted : Type 0 where
  pub stream : (given : List ℕ) (stream : DeclaredStream) → IsStream stream
      → stream.classes ≡ classes_for (length stream.ports) given → stream_fault given stream ≡ None
  pub flow : (flow : DeclaredFlow) → IsFlow flow → flow_fault flow ≡ None
  pub last_stream : (network : DeclaredNetwork) (given : List ℕ) (stream : DeclaredStream)
      → IsNetwork (with_stream network stream) → stream.classes ≡ classes_for (length stream.ports) given
      → StreamIsTaken network given stream
  pub last_flow : (network : DeclaredNetwork) (flow : DeclaredFlow) → IsNetwork (with_flow network flow)
      → FlowIsTaken network flow
