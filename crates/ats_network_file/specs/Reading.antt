use Rattle.std.specs.Prelude.{◌≡◌, ℕ, List, [], ◌++◌, map, Result, Ok, Err}
use Rattle.ats_topology.specs.Faults.{topology_fault}
use Rattle.ats_topology.specs.Topology.{DeclaredTopology, topology_of}
use Rattle.ats_topology.specs.declared.node.Kind.TheVariants.{Station, Bridge}
use Rattle.ats_topology.specs.declared.node.Node.{Node}
use Rattle.ats_topology.specs.declared.link.Link.{Link}
use Rattle.ats_streams.specs.declared.path.TheConstants.{MAX_PORTS, MAX_SHORT_PORTS}
use Rattle.ats_network.specs.Network.{DeclaredNetwork, network_within}
use Rattle.ats_network_table.specs.declared.fault.DocumentFault.{DocumentFault}
use Rattle.ats_network_table.specs.declared.format.Format.{Format}
use Rattle.ats_network_table.specs.declared.format.Format.TheVariants.{One, Two, Three}
use Rattle.ats_network_toml.specs.Document as file
use Rattle.ats_network_toml.specs.Reading.{document_of, format_in}
use Rattle.ats_network_toml.specs.declared.entries.StationEntry.{StationEntry}
use Rattle.ats_network_toml.specs.declared.entries.BridgeEntry.{BridgeEntry}
use Rattle.ats_network_toml.specs.declared.entries.LinkEntry.{LinkEntry}
use Rattle.ats_num.specs.Failure.{◌>>=◌, unless}
use Rattle.ats_network_file.specs.Senders.{all_added, stream_added, streams_in, flow_added, flows_in}
use Rattle.ats_network_file.specs.declared.fault.NetFault.{NetFault}
use Rattle.ats_network_file.specs.declared.fault.NetFault.TheVariants.{Form, Topology}

-- what the text declares in its tables, or its first fault of form
abbrev pub tables_of : Result file.DeclaredDocument DocumentFault → Result file.DeclaredDocument NetFault
tables_of (Ok document) = Ok document
tables_of (Err fault) = Err (Form fault)

-- a station, a bridge and a link as declared
abbrev pub station_of : StationEntry → Node
station_of s = record { name = s.name; kind = Station }

abbrev pub bridge_of : BridgeEntry → Node
bridge_of b = record {
  name = b.name;
  kind = Bridge b.processing_min_ns b.processing_max_ns b.residence_ns b.clock_ppm b.clock_step_ps;
}

abbrev pub link_of : LinkEntry → Link
link_of l = record { a = l.a; b = l.b; mbps = l.mbps; propagation_ns = l.propagation_ns }

-- the nodes: the stations, then the bridges
abbrev pub nodes_of : file.DeclaredDocument → List Node
nodes_of d = map station_of d.stations ++ map bridge_of d.bridges

abbrev pub links_of : file.DeclaredDocument → List Link
links_of d = map link_of d.links

-- the topology of nodes and links, or their first fault
abbrev pub topology_in : file.DeclaredDocument → Result DeclaredTopology NetFault
topology_in d = unless Topology (topology_fault (nodes_of d) (links_of d)) (topology_of (nodes_of d) (links_of d))

-- the most ports of a route, by the format
abbrev pub most_ports_of : Format → ℕ
most_ports_of One = MAX_SHORT_PORTS
most_ports_of Two = MAX_SHORT_PORTS
most_ports_of Three = MAX_PORTS

-- the network of a document: its topology, then its streams, then its flows; or the first fault
abbrev pub network_in : file.DeclaredDocument → Result DeclaredNetwork NetFault
network_in d = do
  topology ← topology_in d
  streamed ← all_added (stream_added d.format) (network_within topology (most_ports_of d.format) [] [])
      (streams_in topology d)
  all_added (flow_added d.format) streamed (flows_in topology d)

-- the network that a text declares, or its first fault
abbrev pub network_of : List ℕ → Result DeclaredNetwork NetFault
network_of text = tables_of (document_of text) >>= network_in

-- the text is not of format 3: each of its streams has one listener
abbrev pub IsBeforeFormat3 : List ℕ → Type 0
IsBeforeFormat3 text = ¬ (format_in text ≡ Ok Three)
