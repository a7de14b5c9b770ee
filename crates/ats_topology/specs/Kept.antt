use Rattle.std.specs.Prelude.{◌≡◌, ◌↔◌, ℕ, Bool, IsTrue, List, length, None}
use Rattle.ats_topology.specs.Node.{names_of}
use Rattle.ats_topology.specs.PortTable.{NodePorts, node_ports}
use Rattle.ats_topology.specs.Faults.{topology_fault}
use Rattle.ats_topology.specs.Topology.{AreIdeal, ports_of}
use Rattle.ats_topology.specs.declared.node.Node.{Node}
use Rattle.ats_topology.specs.declared.link.Link.{Link}

-- nodes and links without a fault, beside a table of the names, a table of the ports, and whether all clocks are ideal
pub record AreKept (nodes : List Node) (links : List Link) (table : List (List ℕ)) (between : NodePorts)
    (ideal : Bool) : Type 0 where
  pub sound : topology_fault nodes links ≡ None
  pub names : table ≡ names_of nodes
  pub ports : between ≡ node_ports (length nodes) (ports_of nodes links)
  pub clocks : IsTrue ideal ↔ AreIdeal nodes
