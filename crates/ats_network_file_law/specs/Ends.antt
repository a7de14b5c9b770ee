use Rattle.std.specs.Prelude.{◌≡◌, ℕ, List, None, Some}
use Rattle.ats_num.specs.Places.{place_of}
use Rattle.ats_topology.specs.Node.{names_of}
use Rattle.ats_topology.specs.Topology.{DeclaredTopology, IsTopology, topology_of}
use Rattle.ats_topology.specs.declared.link.Link.{Link}
use Rattle.ats_topology.specs.declared.node.Node.{Node}
use Rattle.ats_network.specs.Path.{IsValidPath}
use Rattle.ats_network.specs.Shortest.{shortest_of}
use Rattle.ats_network_toml.specs.Document as file
use Rattle.ats_network_file.specs.Routes.{ports_of}
use Rattle.ats_network_file_law.specs.Accepted.{JoinOnce}
use Rattle.ats_network_file_law.specs.Entries.{names_along}

-- the ports of a route by its ends are those of the walk of fewest ports between the nodes with these names, however
-- many these are; where one of the names is that of no node, or no walk leads there, it has none
pub record EndsGoLeastWays (topology : DeclaredTopology) (from to : List ℕ) : Type 0 where
  pub least : (a b : ℕ) → place_of from (names_of topology.nodes) ≡ Some a
      → place_of to (names_of topology.nodes) ≡ Some b
      → ports_of topology (file.ends from to) ≡ shortest_of topology a b
  pub no_first : place_of from (names_of topology.nodes) ≡ None → ports_of topology (file.ends from to) ≡ None
  pub no_last : place_of to (names_of topology.nodes) ≡ None → ports_of topology (file.ends from to) ≡ None

-- so it is of all ends
abbrev pub EndsAreMeant : Type 0
EndsAreMeant = (topology : DeclaredTopology) (from to : List ℕ) → EndsGoLeastWays topology from to

-- the ports of a route by the nodes along it are those of this path, whichever valid path it is: the walk of fewest
-- ports or a longer one
abbrev pub PathsAreMeant : Type 0
PathsAreMeant = (nodes : List Node) (links : List Link) (ports : List ℕ) → IsTopology (topology_of nodes links)
    → JoinOnce links → IsValidPath (topology_of nodes links) ports
    → ports_of (topology_of nodes links) (file.path (names_along (topology_of nodes links) ports)) ≡ Some ports
