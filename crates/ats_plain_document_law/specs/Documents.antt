use Rattle.std.specs.Prelude.{◌≡◌, ◌↔◌, ◌+◌, ◌*◌, ◌-◌, List, [], ◌∷◌, length, Some, Result, Ok, Err}
use Rattle.toml.specs.Data.{Members}
use Rattle.ats_num.specs.Failure.{◌>>=◌}
use Rattle.ats_network_table.specs.Walk.{Entry, format_at, formed, top_of}
use Rattle.ats_network_table.specs.declared.fault.DocumentFault.{DocumentFault}
use Rattle.ats_network_table.specs.declared.key.Key.TheVariants as key
use Rattle.ats_network_table.specs.declared.table.Table.TheVariants.{Bridge, Flow, Link, LinkLocal, LinkLocalFlow}
use Rattle.ats_network_table.specs.declared.table.Table.TheVariants.{Station, Stream}
use Rattle.ats_network_toml.specs.Document.{DeclaredDocument, DeclaredFlow, DeclaredLinkLocal, DeclaredLinkLocalFlow}
use Rattle.ats_network_toml.specs.Document.{DeclaredStream}
use Rattle.ats_network_toml.specs.Entries.{bridge_in, flow_in, link_in, link_local_flow_in, link_local_in, station_in}
use Rattle.ats_network_toml.specs.Entries.{stream_in}
use Rattle.ats_network_toml.specs.Reading.{Arrays, arrays_in, arrays_read, document_in, entries_within, tables_at}
use Rattle.ats_network_toml.specs.declared.entries.BridgeEntry.{BridgeEntry}
use Rattle.ats_network_toml.specs.declared.entries.LinkEntry.{LinkEntry}
use Rattle.ats_network_toml.specs.declared.entries.StationEntry.{StationEntry}
use Rattle.ats_plain_document_law.specs.Faults.{fault_in, first_fault}

-- the arrays of a file are read where its top table is well formed, gives a format, and has tables with each key of an
-- array; and else the fault is the first of those of all these, in this order
pub record ArraysAreRead : Type 0 where
  pub read : (top : Entry) (a : Arrays) → arrays_in top ≡ Ok a
      ↔ ((formed top ≡ Ok tt) × (format_at top ≡ Ok a.format) × (tables_at top key.Station ≡ Ok a.stations)
      × (tables_at top key.Bridge ≡ Ok a.bridges) × (tables_at top key.Link ≡ Ok a.links)
      × (tables_at top key.Stream ≡ Ok a.streams) × (tables_at top key.LinkLocal ≡ Ok a.link_locals)
      × (tables_at top key.Flow ≡ Ok a.flows) × (tables_at top key.LinkLocalFlow ≡ Ok a.link_local_flows))
  pub refused : (top : Entry) (fault : DocumentFault) → arrays_in top ≡ Err fault
      ↔ (first_fault (fault_in (formed top) ∷ fault_in (format_at top) ∷ fault_in (tables_at top key.Station)
      ∷ fault_in (tables_at top key.Bridge) ∷ fault_in (tables_at top key.Link) ∷ fault_in (tables_at top key.Stream)
      ∷ fault_in (tables_at top key.LinkLocal) ∷ fault_in (tables_at top key.Flow)
      ∷ fault_in (tables_at top key.LinkLocalFlow) ∷ []) ≡ Some fault)

-- the entries of each array, by how many tables the arrays have: at most 1024 stations, as many bridges as are left of
-- them, 2048 links, 4096 streams and 1024 flows; and where each table for a port is counted at both ports of each link,
-- 4096 streams and 4096 flows together with those
abbrev pub stations_of : Arrays → Result (List StationEntry) DocumentFault
stations_of a = entries_within station_in a.format Station 1024 (length a.stations) a.stations

abbrev pub bridges_of : Arrays → Result (List BridgeEntry) DocumentFault
bridges_of a = entries_within bridge_in a.format Bridge (1024 - length a.stations) (length a.bridges) a.bridges

abbrev pub links_of : Arrays → Result (List LinkEntry) DocumentFault
links_of a = entries_within link_in a.format Link 2048 (length a.links) a.links

abbrev pub streams_of : Arrays → Result (List DeclaredStream) DocumentFault
streams_of a = entries_within stream_in a.format Stream 4096 (length a.streams) a.streams

abbrev pub link_locals_of : Arrays → Result (List DeclaredLinkLocal) DocumentFault
link_locals_of a = entries_within link_local_in a.format LinkLocal 4096
    (length a.streams + length a.link_locals * (2 * length a.links)) a.link_locals

abbrev pub flows_of : Arrays → Result (List DeclaredFlow) DocumentFault
flows_of a = entries_within flow_in a.format Flow 1024 (length a.flows) a.flows

abbrev pub link_local_flows_of : Arrays → Result (List DeclaredLinkLocalFlow) DocumentFault
link_local_flows_of a = entries_within link_local_flow_in a.format LinkLocalFlow 4096
    (length a.flows + length a.link_local_flows * (2 * length a.links)) a.link_local_flows

-- a document has the format and the entries of each array, and its fault is the first in the arrays; that of a file is
-- read from the arrays of its top table
pub record DocumentsAreRead : Type 0 where
  pub read : (a : Arrays) (d : DeclaredDocument) → arrays_read a ≡ Ok d
      ↔ ((a.format ≡ d.format) × (stations_of a ≡ Ok d.stations) × (bridges_of a ≡ Ok d.bridges)
      × (links_of a ≡ Ok d.links) × (streams_of a ≡ Ok d.streams) × (link_locals_of a ≡ Ok d.link_locals)
      × (flows_of a ≡ Ok d.flows) × (link_local_flows_of a ≡ Ok d.link_local_flows))
  pub refused : (a : Arrays) (fault : DocumentFault) → arrays_read a ≡ Err fault
      ↔ (first_fault (fault_in (stations_of a) ∷ fault_in (bridges_of a) ∷ fault_in (links_of a)
      ∷ fault_in (streams_of a) ∷ fault_in (link_locals_of a) ∷ fault_in (flows_of a)
      ∷ fault_in (link_local_flows_of a) ∷ []) ≡ Some fault)
  pub tree : (tree : Members) → document_in tree ≡ (arrays_in (top_of tree) >>= arrays_read)

pub record DocumentsAreDeclared : Type 0 where
  pub arrays : ArraysAreRead
  pub documents : DocumentsAreRead
