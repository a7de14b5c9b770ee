use Rattle.std.specs.Prelude.{◌≡◌, ◌↔◌, ◌<◌, ℕ, List, [], ◌∷◌, length, Ok, None, Some}
use Rattle.ats_topology.specs.Faults.{topology_fault}
use Rattle.ats_topology.specs.Port.{port_at}
use Rattle.ats_topology.specs.Topology.{DeclaredTopology, topology_of}
use Rattle.ats_topology.specs.declared.link.Link.{Link}
use Rattle.ats_topology.specs.declared.node.Node.{Node}
use Rattle.ats_network.specs.Network.{DeclaredNetwork}
use Rattle.ats_network_toml.specs.Document as file
use Rattle.ats_network_toml.specs.Reading.{document_of}
use Rattle.ats_network_file.specs.LinkLocal.{route_along}
use Rattle.ats_network_file.specs.Reading.{links_of, network_in, network_of, nodes_of}
use Rattle.ats_network_file.specs.Routes.{ports_of}
use Rattle.ats_network_file_law.specs.Entries.{declared_flows, declared_streams}

-- a document with a `stream` or a `flow` table for each port in the place of each table for each port, behind the
-- others
abbrev pub spread_over : DeclaredTopology → file.DeclaredDocument → file.DeclaredDocument
spread_over topology d = record d {
  streams = declared_streams topology d;
  link_locals = [];
  flows = declared_flows topology d;
  link_local_flows = [];
}

abbrev pub spread_out : file.DeclaredDocument → file.DeclaredDocument
spread_out d = spread_over (topology_of (nodes_of d) (links_of d)) d

-- the route that is declared for a port of nodes and links is the port alone
abbrev pub GoesAlong : List Node → List Link → ℕ → Type 0
GoesAlong nodes links port =
    ports_of (topology_of nodes links)
    (route_along (topology_of nodes links) (port_at (topology_of nodes links).ports port)) ≡ Some (port ∷ [])

-- both declare the same networks, and so do texts with these tables; and each sender goes along its port
pub record TablesAreForEachPort : Type 0 where
  pub document : (d : file.DeclaredDocument) (network : DeclaredNetwork)
      → network_in d ≡ Ok network ↔ network_in (spread_out d) ≡ Ok network
  pub text : (text by : List ℕ) (d : file.DeclaredDocument) (network : DeclaredNetwork) → document_of text ≡ Ok d
      → document_of by ≡ Ok (spread_out d) → network_of text ≡ Ok network ↔ network_of by ≡ Ok network
  pub along : (nodes : List Node) (links : List Link) (port : ℕ) → topology_fault nodes links ≡ None
      → port < length (topology_of nodes links).ports → GoesAlong nodes links port
