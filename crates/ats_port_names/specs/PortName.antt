use Rattle.std.specs.Prelude.{ℕ, List, ◌++◌, codes, Option}
use Rattle.std.specs.List.{position_from}
use Rattle.std.specs.Str.{bytes_eq}
use Rattle.ats_topology.specs.Port.{port_at}
use Rattle.ats_topology.specs.Topology.{DeclaredTopology, node_at}
use Rattle.ats_topology.specs.declared.port.Port.{Port}

-- a port as it is written: the name of the node that it leaves, `>`, and the name of the node that it leads to
abbrev pub name_of : DeclaredTopology → Port → List ℕ
name_of topology port = (node_at topology.nodes port.from).name ++ codes ">" ++ (node_at topology.nodes port.to).name

-- the same of the port with a number
abbrev pub port_name : DeclaredTopology → ℕ → List ℕ
port_name topology p = name_of topology (port_at topology.ports p)

-- the number of the port that is written so, if there is one
abbrev pub port_named : DeclaredTopology → List ℕ → Option ℕ
port_named topology text = position_from (λ (port : Port). bytes_eq text (name_of topology port)) 0 topology.ports
