use Rattle.std.specs.Prelude.{◌≡◌, ℕ, List, [], ◌∷◌, Some, Ok, Err}
use Rattle.ats_topology.specs.Faults.{topology_fault}
use Rattle.ats_topology.specs.declared.fault.TopologyFault.{TopologyFault}
use Rattle.ats_topology.specs.declared.link.Link.{Link}
use Rattle.ats_topology.specs.declared.node.Kind.TheVariants.{Station, Bridge}
use Rattle.ats_topology.specs.declared.node.Node.{Node}
use Rattle.ats_streams.specs.Stream.{classes_for}
use Rattle.ats_network_table.specs.declared.fault.DocumentFault.{DocumentFault}
use Rattle.ats_network_toml.specs.Document as file
use Rattle.ats_network_toml.specs.Reading.{document_of}
use Rattle.ats_network_toml.specs.declared.entries.BridgeEntry.{BridgeEntry}
use Rattle.ats_network_toml.specs.declared.entries.LinkEntry.{LinkEntry}
use Rattle.ats_network_toml.specs.declared.entries.StationEntry.{StationEntry}
use Rattle.ats_network_file.specs.Reading.{bridge_of, link_of, links_of, network_in, network_of, nodes_of, station_of}
use Rattle.ats_network_file.specs.declared.fault.NetFault.TheVariants.{Form, Topology}

-- what a text declares is what its tables do; where it has none, their fault is its fault of form
pub record IsOfTables (text : List ℕ) : Type 0 where
  pub tables : (document : file.DeclaredDocument) → document_of text ≡ Ok document
      → network_of text ≡ network_in document
  pub fault : (fault : DocumentFault) → document_of text ≡ Err fault → network_of text ≡ Err (Form fault)

-- a fault of the nodes and links of tables is their fault
abbrev pub PassesTopologyFault : file.DeclaredDocument → Type 0
PassesTopologyFault d =
    (fault : TopologyFault) → topology_fault (nodes_of d) (links_of d) ≡ Some fault
    → network_in d ≡ Err (Topology fault)

-- faults are passed on, of every text and of all tables
pub record PassOn : Type 0 where
  pub text : (text : List ℕ) → IsOfTables text
  pub topology : (document : file.DeclaredDocument) → PassesTopologyFault document

-- a node is that of a station's table, and of a bridge's
pub record IsStationOf (entry : StationEntry) (node : Node) : Type 0 where
  pub name : node.name ≡ entry.name
  pub kind : node.kind ≡ Station

pub record IsBridgeOf (entry : BridgeEntry) (node : Node) : Type 0 where
  pub name : node.name ≡ entry.name
  pub kind : node.kind
      ≡ Bridge entry.processing_min_ns entry.processing_max_ns entry.residence_ns entry.clock_ppm entry.clock_step_ps

-- a link is that of a link's table
pub record IsLinkOf (entry : LinkEntry) (link : Link) : Type 0 where
  pub one_end : link.a ≡ entry.a
  pub other_end : link.b ≡ entry.b
  pub rate : link.mbps ≡ entry.mbps
  pub propagation : link.propagation_ns ≡ entry.propagation_ns

-- each table of a station, bridge or link stands for a node or link with its name and numbers; and of the classes that
-- a stream's table lists each is that of the port at its place, a single one that of each port
pub record TablesAreMeant : Type 0 where
  pub station : (entry : StationEntry) → IsStationOf entry (station_of entry)
  pub bridge : (entry : BridgeEntry) → IsBridgeOf entry (bridge_of entry)
  pub link : (entry : LinkEntry) → IsLinkOf entry (link_of entry)
  pub classes : classes_for 3 (6 ∷ 5 ∷ 4 ∷ []) ≡ 6 ∷ 5 ∷ 4 ∷ []
  pub class : classes_for 3 (6 ∷ []) ≡ 6 ∷ 6 ∷ 6 ∷ []
