use Rattle.std.specs.Prelude.{ℕ, ◌+◌, ◌*◌, ◌-◌, nat_lt, List, [], ◌∷◌, length, Option, None, Result, Ok, Err}
use Rattle.std.specs.Prelude.{if◌then◌else◌}
use Rattle.std.specs.Str.{is_utf8}
use Rattle.toml.specs.Data.{Data, Members, as_table}
use Rattle.toml.specs.Parse.{parse_document}
use Rattle.ats_num.specs.Failure.{◌>>=◌, or_fault}
use Rattle.ats_network_table.specs.Kinds.{list_in}
use Rattle.ats_network_table.specs.Walk.{Entry, has, formed, at, format_at, top_of}
use Rattle.ats_network_table.specs.declared.format.Format.{Format}
use Rattle.ats_network_table.specs.declared.table.Table.{Table}
use Rattle.ats_network_table.specs.declared.table.Table.TheVariants.{Station, Bridge, Link, Stream, LinkLocal}
use Rattle.ats_network_table.specs.declared.table.Table.TheVariants.{Flow, LinkLocalFlow}
use Rattle.ats_network_table.specs.declared.key.Key.{Key}
use Rattle.ats_network_table.specs.declared.key.Key.TheVariants as key
use Rattle.ats_network_table.specs.declared.fault.DocumentFault.{DocumentFault}
use Rattle.ats_network_table.specs.declared.fault.DocumentFault.TheVariants.{NotToml, Limit}
use Rattle.ats_network_toml.specs.Document.{DeclaredDocument}
use Rattle.ats_network_toml.specs.Entries.{station_in, bridge_in, link_in, stream_in, link_local_in, flow_in}
use Rattle.ats_network_toml.specs.Entries.{link_local_flow_in}

-- the entries of an array from the one with this number on, or the first fault in them
abbrev pub entries_from : {A : Type 0} → (Entry → Result A DocumentFault) → Format → Table → ℕ → List Members
    → Result (List A) DocumentFault
entries_from read format table n [] = Ok []
entries_from read format table n (ms ∷ rest) = do
  entry ← read (record { format = format; table = table; number = n; members = ms })
  more ← entries_from read format table (n + 1) rest
  Ok (entry ∷ more)

-- the entries of an array, if it and those before stand for no more senders than there may be
abbrev pub entries_within : {A : Type 0} → (Entry → Result A DocumentFault) → Format → Table → ℕ → ℕ → List Members
    → Result (List A) DocumentFault
entries_within read format table most many tables = if nat_lt most many then Err (Limit table)
    else entries_from read format table 1 tables

-- the entries of an array, of at most so many
abbrev pub entries_in : {A : Type 0} → (Entry → Result A DocumentFault) → Format → Table → ℕ → List Members
    → Result (List A) DocumentFault
entries_in read format table most tables = entries_within read format table most (length tables) tables

-- an array of tables
abbrev pub tables_in : Data → Option (List Members)
tables_in = list_in as_table

-- the tables of an array; an absent one has none
abbrev pub tables_at : Entry → Key → Result (List Members) DocumentFault
tables_at e k = if has e k then at e k tables_in else Ok []

-- the format and the arrays of the top table
pub record Arrays : Type 0 where
  pub format : Format
  pub stations : List Members
  pub bridges : List Members
  pub links : List Members
  pub streams : List Members
  pub link_locals : List Members
  pub flows : List Members
  pub link_local_flows : List Members

-- the format that the top table gives, and its arrays, which are arrays of tables
abbrev pub arrays_in : Entry → Result Arrays DocumentFault
arrays_in top = do
  well ← formed top
  format ← format_at top
  stations ← tables_at top key.Station
  bridges ← tables_at top key.Bridge
  links ← tables_at top key.Link
  streams ← tables_at top key.Stream
  link_locals ← tables_at top key.LinkLocal
  flows ← tables_at top key.Flow
  link_local_flows ← tables_at top key.LinkLocalFlow
  Ok (record {
    format = format;
    stations = stations;
    bridges = bridges;
    links = links;
    streams = streams;
    link_locals = link_locals;
    flows = flows;
    link_local_flows = link_local_flows;
  })

-- how many senders the entries of two arrays stand for, where each of the second stands for two at each link
abbrev pub senders_for : {A B C : Type 0} → List A → List B → List C → ℕ
senders_for alone for_ports links = length alone + length for_ports * (2 * length links)

-- the format, and the entries of all arrays: at most 1024 stations and bridges together, 2048 links, 4096 streams and
-- 1024 flows, and 4096 streams and 4096 flows with those that the entries for each port stand for
abbrev pub arrays_read : Arrays → Result DeclaredDocument DocumentFault
arrays_read arrays = do
  stations ← entries_in station_in arrays.format Station 1024 arrays.stations
  bridges ← entries_in bridge_in arrays.format Bridge (1024 - length stations) arrays.bridges
  links ← entries_in link_in arrays.format Link 2048 arrays.links
  streams ← entries_in stream_in arrays.format Stream 4096 arrays.streams
  link_locals ← entries_within link_local_in arrays.format LinkLocal 4096
      (senders_for streams arrays.link_locals links) arrays.link_locals
  flows ← entries_in flow_in arrays.format Flow 1024 arrays.flows
  link_local_flows ← entries_within link_local_flow_in arrays.format LinkLocalFlow 4096
      (senders_for flows arrays.link_local_flows links) arrays.link_local_flows
  Ok (record {
    format = arrays.format;
    stations = stations;
    bridges = bridges;
    links = links;
    streams = streams;
    link_locals = link_locals;
    flows = flows;
    link_local_flows = link_local_flows;
  })

-- what a TOML document declares, or its first fault
abbrev pub document_in : Members → Result DeclaredDocument DocumentFault
document_in tree = arrays_in (top_of tree) >>= arrays_read

-- the document that a text is, if it is UTF-8 and TOML
abbrev pub tree_of : List ℕ → Option Members
tree_of text = if is_utf8 text then parse_document text else None

-- the format of a text, where its top table gives one
abbrev pub format_in : List ℕ → Result Format DocumentFault
format_in text = do
  tree ← or_fault NotToml (tree_of text)
  arrays ← arrays_in (top_of tree)
  Ok arrays.format

-- what a text declares, or its first fault
abbrev pub document_of : List ℕ → Result DeclaredDocument DocumentFault
document_of text = or_fault NotToml (tree_of text) >>= document_in
