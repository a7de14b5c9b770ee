use Rattle.std.specs.Prelude.{◌≡◌, ℕ, ◌<◌, length, false}
use Rattle.ats_topology.specs.Node.{is_station}
use Rattle.ats_topology.specs.Port.{port_at}
use Rattle.ats_topology.specs.Topology.{DeclaredTopology, node_at}

-- the number is that of a bridge
pub record IsBridgeAt (topology : DeclaredTopology) (node : ℕ) : Type 0 where
  pub within : node < length topology.nodes
  pub bridge : is_station (node_at topology.nodes node).kind ≡ false

-- the first port leads to a bridge, and the second leaves that bridge
pub record MeetAtBridge (topology : DeclaredTopology) (p q : ℕ) : Type 0 where
  pub bridge : IsBridgeAt topology (port_at topology.ports p).to
  pub next : (port_at topology.ports q).from ≡ (port_at topology.ports p).to
