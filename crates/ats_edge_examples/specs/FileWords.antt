use Rattle.std.specs.Prelude.{◌≡◌, ◌≢◌, ◌↔◌, ℕ, ◌<◌, ◌≤◌, IsTrue, List, [], ◌∷◌, ◌++◌, length, map, pos, All, Some}
use Rattle.std.specs.Prelude.{None}
use Rattle.std.specs.Prelude.{Ok, Err, if◌then◌else◌, codes, decimal}
use Rattle.std.specs.List.{AllZip, enumerate_from, flat_map, join_with_byte}
use Rattle.std.specs.Str.{bytes_eq}
use Rattle.csv.specs.Reading.{default_config, records, strip_bom}
use Rattle.toml.specs.Data.{Data, Members, as_array, get_member, integer, member, no_members}
use Rattle.ats_streams.specs.declared.path.TheConstants.{MAX_PORTS}
use Rattle.ats_topology.specs.Topology.{DeclaredTopology, node_at, topology_of}
use Rattle.ats_topology.specs.declared.port.Port.{Port}
use Rattle.ats_network.specs.Ends.{joins_stations}
use Rattle.ats_network.specs.Network.{DeclaredNetwork}
use Rattle.ats_csv.specs.Plain.{IsPlain, IsPlainByte, record_text}
use Rattle.ats_csv.specs.Reading.{records_of}
use Rattle.ats_network_table.specs.Words.{key_text}
use Rattle.ats_network_table.specs.declared.fault.DocumentFault.{DocumentFault}
use Rattle.ats_network_table.specs.declared.format.Format.TheVariants.{Three}
use Rattle.ats_network_table.specs.declared.key.Key.TheVariants as key
use Rattle.ats_network_toml.specs.Document as file
use Rattle.ats_network_toml.specs.Reading.{tree_of}
use Rattle.ats_network_file.specs.LinkLocal.{flow_at, flows_at, stream_at, streams_at}
use Rattle.ats_network_file.specs.Reading.{bridge_of, link_of, links_of, nodes_of, station_of}
use Rattle.ats_network_file.specs.Routes.{path_of, ports_of}
use Rattle.ats_network_file.specs.declared.fault.NetFault.{NetFault}
use Rattle.ats_network_file_law.specs.Entries.{declared_flows, declared_streams, names_along}
use Rattle.ats_network_file_law.specs.Formats.{AreOfOneMeaning, SaysNoClock, SaysNothingNew, in_format_three}
use Rattle.ats_network_file_law.specs.Formats.{with_format}
use Rattle.ats_network_file_law.specs.FormFaults.{tables_told, top_of}
use Rattle.ats_network_file_law.specs.OneListener.{AreWrittenByPath, IsWrittenByPath}
use Rattle.ats_network_file_law.specs.ShortRoutes.{HasShortEntries, HasShortRoute, IsShortBetweenStations, as_long}

-- What the records of a file and the senders for each port are, and what the laws on network files ask of texts and
-- documents, written out for all of them, both ways.

-- the records of a file are what csv reads of its bytes; which records have a plain text that reads back
pub record BytesAreCut : Type 0 where
  pub records : (bytes : List ℕ) → records_of bytes ≡ records default_config (strip_bom bytes)
  pub text : (fields : List (List ℕ)) → record_text fields ≡ join_with_byte 44 fields ++ 10 ∷ []
  pub byte : (b : ℕ) → IsPlainByte b ↔ ((b < 128) × (b ≢ 44) × (b ≢ 34) × (b ≢ 13) × (b ≢ 10))
  pub plain : (fields : List (List ℕ))
      → IsPlain fields ↔ (All (All IsPlainByte) fields × (fields ≢ []) × (fields ≢ [] ∷ []))

-- the nodes are those of the stations, then of the bridges, and the links those of the links; a stream and a flow for
-- each port have the numbers of their table, also where they then break a rule
pub record EntriesAreMeant : Type 0 where
  pub nodes : (d : file.DeclaredDocument) → nodes_of d ≡ map station_of d.stations ++ map bridge_of d.bridges
  pub links : (d : file.DeclaredDocument) → links_of d ≡ map link_of d.links
  pub stream : (topology : DeclaredTopology) (e : file.DeclaredLinkLocal) (n : ℕ) (port : Port)
      → stream_at topology e (n, port) ≡ record {
        name = e.name ++ codes "-" ++ decimal n;
        routes = file.path ((node_at topology.nodes port.from).name ∷ (node_at topology.nodes port.to).name ∷ []) ∷ [];
        classes = e.class ∷ [];
        rate_bps = e.rate_bps;
        burst_bits = e.burst_bits;
        min_octets = e.min_octets;
        max_octets = e.max_octets;
        deadline_ns = e.deadline_ns;
        identity = None;
      }
  pub flow : (topology : DeclaredTopology) (e : file.DeclaredLinkLocalFlow) (n : ℕ) (port : Port)
      → flow_at topology e (n, port) ≡ record {
        name = e.name ++ codes "-" ++ decimal n;
        route = file.path ((node_at topology.nodes port.from).name ∷ (node_at topology.nodes port.to).name ∷ []);
        max_octets = e.max_octets;
      }
  pub streams : (topology : DeclaredTopology) (e : file.DeclaredLinkLocal)
      → streams_at topology e ≡ map (stream_at topology e) (enumerate_from 0 topology.ports)
  pub flows : (topology : DeclaredTopology) (e : file.DeclaredLinkLocalFlow)
      → flows_at topology e ≡ map (flow_at topology e) (enumerate_from 0 topology.ports)

-- two texts are of one meaning where the one has format 3, the other the same tables in format 2, and none of them says
-- what only format 3 can
pub record TwoFormatsAreMeant : Type 0 where
  pub stream : (ms : Members)
      → SaysNothingNew ms
      ↔ ((get_member (key_text key.Paths) ms ≡ None)
      × ((d : Data) → get_member (key_text key.To) ms ≡ Some d → as_array d ≡ None))
  pub bridge : (ms : Members)
      → SaysNoClock ms
      ↔ ((get_member (key_text key.ClockPpm) ms ≡ None) × (get_member (key_text key.ClockStepPs) ms ≡ None))
  pub no_key : (n : ℕ) → with_format n no_members ≡ no_members
  pub keys : (n : ℕ) (text : List ℕ) (d : Data) (ms : Members)
      → with_format n (member text d ms)
      ≡ member text (if bytes_eq (key_text key.Format) text then integer (pos n) else d) (with_format n ms)
  pub texts : (three two : List ℕ)
      → AreOfOneMeaning three two
      ↔ ((tree : Members) × (tree_of three ≡ Some tree) × (tree_of two ≡ Some (with_format 2 tree))
      × (get_member (key_text key.Format) tree ≡ Some (integer (pos 3)))
      × All SaysNothingNew (tables_told (top_of tree) key.Stream)
      × All SaysNoClock (tables_told (top_of tree) key.Bridge) × (get_member (key_text key.LinkLocal) tree ≡ None)
      × (get_member (key_text key.LinkLocalFlow) tree ≡ None))
  pub read : (d : file.DeclaredDocument) → in_format_three (Ok d) ≡ Ok (record d { format = Three })
  pub fault : (fault : DocumentFault) → in_format_three (Err fault) ≡ Err fault

-- documents in which the one route of each stream is written by its path, and documents with short routes alone
pub record RoutesAreWritten : Type 0 where
  pub stream : (topology : DeclaredTopology) (entry by : file.DeclaredStream)
      → IsWrittenByPath topology entry by
      ↔ ((route : file.DeclaredRoute) × (path : List ℕ) × (entry.routes ≡ route ∷ [])
      × (path_of topology route ≡ Some path) × (by.routes ≡ file.path (names_along topology path) ∷ [])
      × (record entry { routes = by.routes } ≡ by))
  pub document : (d by : file.DeclaredDocument)
      → AreWrittenByPath d by
      ↔ (AllZip (IsWrittenByPath (topology_of (nodes_of d) (links_of d))) d.streams by.streams
      × (record d { streams = by.streams } ≡ by))
  pub ports : (topology : DeclaredTopology) (ports : List ℕ)
      → IsShortBetweenStations topology ports ↔ ((length ports ≤ 16) × IsTrue (joins_stations topology ports))
  pub route : (topology : DeclaredTopology) (route : file.DeclaredRoute)
      → HasShortRoute topology route
      ↔ ((ports : List ℕ) → ports_of topology route ≡ Some ports → IsShortBetweenStations topology ports)
  pub entries : (d : file.DeclaredDocument)
      → HasShortEntries d
      ↔ (All (λ (e : file.DeclaredStream). All (HasShortRoute (topology_of (nodes_of d) (links_of d))) e.routes)
      (declared_streams (topology_of (nodes_of d) (links_of d)) d)
      × All (λ (e : file.DeclaredFlow). HasShortRoute (topology_of (nodes_of d) (links_of d)) e.route)
      (declared_flows (topology_of (nodes_of d) (links_of d)) d))
  pub streams : (topology : DeclaredTopology) (d : file.DeclaredDocument)
      → declared_streams topology d ≡ d.streams ++ flat_map (streams_at topology) d.link_locals
  pub flows : (topology : DeclaredTopology) (d : file.DeclaredDocument)
      → declared_flows topology d ≡ d.flows ++ flat_map (flows_at topology) d.link_local_flows
  pub made : (network : DeclaredNetwork) → as_long (Ok network) ≡ Ok (record network { most_ports = MAX_PORTS })
  pub fault : (fault : NetFault) → as_long (Err fault) ≡ Err fault

pub record FilesAreMeant : Type 0 where
  pub bytes : BytesAreCut
  pub entries : EntriesAreMeant
  pub formats : TwoFormatsAreMeant
  pub routes : RoutesAreWritten
