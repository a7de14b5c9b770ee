use Rattle.std.specs.Prelude.{◌≡◌, ℕ, List, [], ◌∷◌, Some}
use Rattle.std.specs.List.{AllZip}
use Rattle.ats_topology.specs.Topology.{DeclaredTopology, topology_of}
use Rattle.ats_network_toml.specs.Document as file
use Rattle.ats_network_file.specs.Reading.{links_of, network_in, nodes_of}
use Rattle.ats_network_file.specs.Routes.{path_of}
use Rattle.ats_network_file_law.specs.Entries.{names_along}

-- an entry has one route, and another one is the same but for how this is written: by the names of the nodes along it
pub record IsWrittenByPath (topology : DeclaredTopology) (entry by : file.DeclaredStream) : Type 0 where
  pub route : file.DeclaredRoute
  pub path : List ℕ
  pub one : entry.routes ≡ route ∷ []
  pub found : path_of topology route ≡ Some path
  pub names : by.routes ≡ file.path (names_along topology path) ∷ []
  pub else_same : record entry { routes = by.routes } ≡ by

-- two documents are the same but for how the one route of each stream is written
pub record AreWrittenByPath (d by : file.DeclaredDocument) : Type 0 where
  pub streams : AllZip (IsWrittenByPath (topology_of (nodes_of d) (links_of d))) d.streams by.streams
  pub else_same : record d { streams = by.streams } ≡ by

-- where each stream has one listener, a document declares the network of that one in which each has its path; files of
-- format 2 can say no other
abbrev pub OneListenerIsByPath : Type 0
OneListenerIsByPath = (d by : file.DeclaredDocument) → AreWrittenByPath d by → network_in d ≡ network_in by
