use Rattle.std.specs.Prelude.{◌≡◌, ℕ, ◌<◌, IsTrue, List, length, All, Some, None}
use Rattle.ats_num.specs.Name.{is_name}
use Rattle.ats_topology.specs.Faults.{topology_fault}
use Rattle.ats_topology.specs.Topology.{ports_of, topology_of}
use Rattle.ats_topology.specs.declared.node.Node.{Node}
use Rattle.ats_topology.specs.declared.link.Link.{Link}
use Rattle.ats_port_names.specs.PortName.{port_name, port_named}

-- nodes with names, and links, without a fault: what every topology is made of
pub record AreSound (nodes : List Node) (links : List Link) : Type 0 where
  pub names : All (λ (node : Node). IsTrue (is_name node.name)) nodes
  pub sound : topology_fault nodes links ≡ None

-- the port that is found by the name of a port is that port
abbrev pub PortReadsBack : Type 0
PortReadsBack = (nodes : List Node) (links : List Link) → AreSound nodes links → (p : ℕ)
    → p < length (ports_of nodes links)
    → port_named (topology_of nodes links) (port_name (topology_of nodes links) p) ≡ Some p
