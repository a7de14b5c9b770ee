use Rattle.std.specs.Prelude.{◌≡◌, ℕ, List, ◌++◌, length, map, Some, Ok}
use Rattle.std.specs.List.{AllZip, flat_map}
use Rattle.ats_num.specs.Places.{place_of}
use Rattle.ats_topology.specs.Node.{names_of}
use Rattle.ats_topology.specs.Topology.{DeclaredTopology, node_at}
use Rattle.ats_streams.specs.Branches.{AreBranches, routes_of}
use Rattle.ats_streams.specs.Stream.{DeclaredStream, classes_for}
use Rattle.ats_streams.specs.Flow.{DeclaredFlow}
use Rattle.ats_network.specs.Network.{DeclaredNetwork}
use Rattle.ats_network.specs.Path.{IsTree, IsValidPath, nodes_along}
use Rattle.ats_network.specs.Shortest.{shortest_of}
use Rattle.ats_network_toml.specs.Document as file
use Rattle.ats_network_toml.specs.Reading.{document_of}
use Rattle.ats_network_file.specs.LinkLocal.{flows_at, streams_at}
use Rattle.ats_network_file.specs.Reading.{links_of, most_ports_of, network_of, nodes_of}

-- the names of the nodes of a path, in order
abbrev pub names_along : DeclaredTopology → List ℕ → List (List ℕ)
names_along topology path = map (λ n. (node_at topology.nodes n).name) (nodes_along topology.ports path)

-- a path by the ends alone: the walk of fewest ports between the nodes with these names
pub record IsBetweenEnds (topology : DeclaredTopology) (from to : List ℕ) (path : List ℕ) : Type 0 where
  pub first : ℕ
  pub last : ℕ
  pub begins : place_of from (names_of topology.nodes) ≡ Some first
  pub ends : place_of to (names_of topology.nodes) ≡ Some last
  pub least : shortest_of topology first last ≡ Some path

-- a path is the one of a route: it goes through just the nodes that the route names, in order, or it is the walk of
-- fewest ports between its two ends
abbrev pub IsPathOf : DeclaredTopology → file.DeclaredRoute → List ℕ → Type 0
IsPathOf topology (file.path names) path = names_along topology path ≡ names
IsPathOf topology (file.ends from to) path = IsBetweenEnds topology from to path

-- a stream is the one of an entry: the same name and numbers, legs that make a tree, whose routes are, one by one,
-- those of the entry, and the classes given, a single one of which stands for each port
pub record IsStreamOf (topology : DeclaredTopology) (entry : file.DeclaredStream) (stream : DeclaredStream) : Type 0
  where
    pub name : stream.name ≡ entry.name
    pub branches : AreBranches stream.ports stream.branches
    pub tree : IsTree topology stream.ports stream.branches
    pub routes : AllZip (IsPathOf topology) entry.routes (routes_of stream.ports stream.branches)
    pub classes : stream.classes ≡ classes_for (length stream.ports) entry.classes
    pub rate : stream.rate ≡ entry.rate_bps
    pub burst : stream.burst_bits ≡ entry.burst_bits
    pub least : stream.min_octets ≡ entry.min_octets
    pub greatest : stream.max_octets ≡ entry.max_octets
    pub deadline : stream.deadline_ns ≡ entry.deadline_ns
    pub identity : stream.identity ≡ entry.identity

-- the same of a flow
pub record IsFlowOf (topology : DeclaredTopology) (entry : file.DeclaredFlow) (flow : DeclaredFlow) : Type 0 where
  pub name : flow.name ≡ entry.name
  pub route : IsPathOf topology entry.route flow.path
  pub valid : IsValidPath topology flow.path
  pub greatest : flow.max_octets ≡ entry.max_octets

-- the streams that a document declares over a topology: those of its entries, and those for each port; and the flows
abbrev pub declared_streams : DeclaredTopology → file.DeclaredDocument → List file.DeclaredStream
declared_streams topology d = d.streams ++ flat_map (streams_at topology) d.link_locals

abbrev pub declared_flows : DeclaredTopology → file.DeclaredDocument → List file.DeclaredFlow
declared_flows topology d = d.flows ++ flat_map (flows_at topology) d.link_local_flows

-- a network is that of a file's tables: its nodes are the stations and then the bridges, its links the links, a route
-- may have as many ports as the format allows, and its streams and flows are those of the entries, each at its place
pub record IsNetworkOf (document : file.DeclaredDocument) (network : DeclaredNetwork) : Type 0 where
  pub nodes : network.topology.nodes ≡ nodes_of document
  pub links : network.topology.links ≡ links_of document
  pub most : network.most_ports ≡ most_ports_of document.format
  pub streams : AllZip (IsStreamOf network.topology) (declared_streams network.topology document) network.streams
  pub flows : AllZip (IsFlowOf network.topology) (declared_flows network.topology document) network.flows

-- a text that declares a network declares it by these tables, entry by entry
abbrev pub EachEntryStands : Type 0
EachEntryStands = (text : List ℕ) (document : file.DeclaredDocument) (network : DeclaredNetwork)
    → document_of text ≡ Ok document → network_of text ≡ Ok network → IsNetworkOf document network
