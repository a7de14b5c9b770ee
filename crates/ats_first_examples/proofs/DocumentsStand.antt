-- What a text declares stands in its tables, one by one.
use Rattle.std.proofs.Common.{◌≡◌, ◌∙◌, ℕ, ◌+◌, ◌-◌, Bool, true, false, cond, List, [], ◌∷◌, length, Option, Some}
use Rattle.std.proofs.Common.{None}
use Rattle.std.proofs.Common.{Result, Ok, Err, ap, subst, ◌⊎◌}
use Rattle.std.specs.Prelude.{nat_lt}
use Rattle.std.specs.List.{AllZip}
use Rattle.toml.specs.Data.{Members, array, as_table, get_member, table}
use Rattle.ats_num.specs.Failure.{◌>>=◌, or_fault}
use Rattle.ats_network_table.specs.Walk.{Entry, at, format_at, formed, top_of}
use Rattle.ats_network_table.specs.Words.{key_text}
use Rattle.ats_network_table.specs.declared.fault.DocumentFault.{DocumentFault}
use Rattle.ats_network_table.specs.declared.fault.DocumentFault.TheVariants.{Limit, NotToml}
use Rattle.ats_network_table.specs.declared.format.Format.{Format}
use Rattle.ats_network_table.specs.declared.key.Key.{Key}
use Rattle.ats_network_table.specs.declared.key.Key.TheVariants as key
use Rattle.ats_network_table.specs.declared.table.Table.{Table}
use Rattle.ats_network_table.specs.declared.table.Table.TheVariants.{Bridge, Flow, Link, LinkLocal, LinkLocalFlow}
use Rattle.ats_network_table.specs.declared.table.Table.TheVariants.{Station, Stream}
use Rattle.ats_network_toml.specs.Document as file
use Rattle.ats_network_toml.specs.Entries.{bridge_in, flow_in, link_in, link_local_flow_in, link_local_in, station_in}
use Rattle.ats_network_toml.specs.Entries.{stream_in}
use Rattle.ats_network_toml.specs.Reading.{Arrays, arrays_in, arrays_read, document_in, entries_from}
use Rattle.ats_network_toml.specs.Reading.{entries_in, entries_within, senders_for, tables_at, tables_in}
use Rattle.ats_network_toml.specs.declared.entries.BridgeEntry.{BridgeEntry}
use Rattle.ats_network_toml.specs.declared.entries.LinkEntry.{LinkEntry}
use Rattle.ats_network_toml.specs.declared.entries.StationEntry.{StationEntry}
use Rattle.ats_network_file.proofs.Documents.{format_read}
use Rattle.ats_network_file.proofs.Steps.{both}
use Rattle.ats_first_examples.specs.Entries.{IsBridgeTable, IsDeclaredIn, IsFlowTable, IsLinkLocalFlowTable}
use Rattle.ats_first_examples.specs.Entries.{IsLinkLocalTable, IsLinkTable, IsStationTable, IsStreamTable, StandIn}
use Rattle.ats_first_examples.specs.Entries.{TablesAreRead, items_of}
use Rattle.ats_first_examples.proofs.EntriesStand.{bridge_stands, entry_of, flow_stands, link_local_flow_stands}
use Rattle.ats_first_examples.proofs.EntriesStand.{link_local_stands, link_stands, station_stands, stream_stands}
use Rattle.ats_first_examples.proofs.ValuesStand.{left_out, list_back, ok_same, stands_at, table_back}

-- the entries of an array are those of its tables
array_stands : {A : Type 0} (Is : Members → A → Type 0) (read : Entry → Result A DocumentFault) (f : Format) (t : Table)
    → ((n : ℕ) (ms : Members) (x : A) → read (entry_of f t n ms) ≡ Ok x → Is ms x)
    → (n : ℕ) (tables : List Members) (xs : List A) → entries_from read f t n tables ≡ Ok xs → AllZip Is tables xs
array_stands Is read f t stands n [] xs h = subst (λ xs. AllZip Is [] xs) (ok_same [] xs h) tt
array_stands Is read f t stands n (ms ∷ tables) xs h =
    let one = both (read (entry_of f t n ms)) (λ x. entries_from read f t (n + 1) tables >>= λ more. Ok (x ∷ more)) xs
    h in
    let rest = both (entries_from read f t (n + 1) tables) (λ more. Ok (one.first ∷ more)) xs one.then in
    subst (λ xs. AllZip Is (ms ∷ tables) xs) (ok_same (one.first ∷ rest.first) xs rest.then)
    (stands n ms one.first one.is, array_stands Is read f t stands (n + 1) tables rest.first rest.is)

within_stands : {A : Type 0} (Is : Members → A → Type 0) (read : Entry → Result A DocumentFault) (f : Format)
    (t : Table) (most many : ℕ)
    → ((n : ℕ) (ms : Members) (x : A) → read (entry_of f t n ms) ≡ Ok x → Is ms x)
    → (tables : List Members) (xs : List A) → entries_within read f t most many tables ≡ Ok xs → AllZip Is tables xs
within_stands {A} Is read f t most many stands tables xs h = by (nat_lt most many) h
  where
    by : (over : Bool) → cond over (Err (Limit t)) (entries_from read f t 1 tables) ≡ Ok xs → AllZip Is tables xs
    by true h = cc h
    by false h = array_stands Is read f t stands 1 tables xs h

-- the tables of an array
abbrev HasTables : Members → Key → List Members → Type 0
HasTables tree k tables =
    (get_member (key_text k) tree ≡ Some (array (items_of table tables)))
    ⊎ ((get_member (key_text k) tree ≡ None) × (tables ≡ []))

tables_stand : (top : Entry) (k : Key) (tables : List Members) → tables_at top k ≡ Ok tables
    → HasTables top.members k tables
tables_stand top k tables h =
    left_out (get_member (key_text k) top.members) [] tables (λ ts. array (items_of table ts)) (at top k tables_in)
    (stands_at top k tables_in (λ ts. array (items_of table ts)) (list_back as_table table table_back) tables) h

abbrev Tables : Type 0
Tables = Result (List Members) DocumentFault

-- each step gave its part
given_as : {A F : Type 0} (r : Result A F) (x y : A) → r ≡ Ok x → x ≡ y → r ≡ Ok y
given_as r x y is same = is ∙ ap Ok same

record ArraysGiven (stations bridges links streams locals flows local_flows : Tables) (arrays : Arrays) : Type 0 where
  pub stations_are : stations ≡ Ok arrays.stations
  pub bridges_are : bridges ≡ Ok arrays.bridges
  pub links_are : links ≡ Ok arrays.links
  pub streams_are : streams ≡ Ok arrays.streams
  pub locals_are : locals ≡ Ok arrays.link_locals
  pub flows_are : flows ≡ Ok arrays.flows
  pub local_flows_are : local_flows ≡ Ok arrays.link_local_flows

arrays_given : (well : Result (Unit {0}) DocumentFault) (format : Result Format DocumentFault)
    (stations bridges links streams locals flows local_flows : Tables) (arrays : Arrays)
    → (well >>= λ u. format >>= λ f. stations >>= λ a. bridges >>= λ b. links >>= λ c. streams >>= λ d. locals
    >>= λ p. flows >>= λ e. local_flows >>= λ q.
    Ok (record {
      format = f;
      stations = a;
      bridges = b;
      links = c;
      streams = d;
      link_locals = p;
      flows = e;
      link_local_flows = q;
    })) ≡ Ok arrays
    → ArraysGiven stations bridges links streams locals flows local_flows arrays
arrays_given well format stations bridges links streams locals flows local_flows arrays h =
    let w = both well _ arrays h in
    let f = both format _ arrays w.then in
    let a = both stations _ arrays f.then in
    let b = both bridges _ arrays a.then in
    let c = both links _ arrays b.then in
    let d = both streams _ arrays c.then in
    let p = both locals _ arrays d.then in
    let e = both flows _ arrays p.then in
    let q = both local_flows _ arrays e.then in
    let same = ok_same _ arrays q.then in
    record {
      stations_are = given_as stations a.first arrays.stations a.is (ap (λ (x : Arrays). x.stations) same);
      bridges_are = given_as bridges b.first arrays.bridges b.is (ap (λ (x : Arrays). x.bridges) same);
      links_are = given_as links c.first arrays.links c.is (ap (λ (x : Arrays). x.links) same);
      streams_are = given_as streams d.first arrays.streams d.is (ap (λ (x : Arrays). x.streams) same);
      locals_are = given_as locals p.first arrays.link_locals p.is (ap (λ (x : Arrays). x.link_locals) same);
      flows_are = given_as flows e.first arrays.flows e.is (ap (λ (x : Arrays). x.flows) same);
      local_flows_are = given_as local_flows q.first arrays.link_local_flows q.is
          (ap (λ (x : Arrays). x.link_local_flows) same);
    }

top_arrays : (top : Entry) (arrays : Arrays) → arrays_in top ≡ Ok arrays
    → ArraysGiven (tables_at top key.Station) (tables_at top key.Bridge) (tables_at top key.Link)
    (tables_at top key.Stream) (tables_at top key.LinkLocal) (tables_at top key.Flow)
    (tables_at top key.LinkLocalFlow) arrays
top_arrays top arrays h =
    arrays_given (formed top) (format_at top) (tables_at top key.Station) (tables_at top key.Bridge)
    (tables_at top key.Link) (tables_at top key.Stream) (tables_at top key.LinkLocal) (tables_at top key.Flow)
    (tables_at top key.LinkLocalFlow) arrays h

-- the entries of each array, where those of some are read in view of others
record EntriesGiven (stations : Result (List StationEntry) DocumentFault)
    (bridges : List StationEntry → Result (List BridgeEntry) DocumentFault)
    (links : Result (List LinkEntry) DocumentFault) (streams : Result (List file.DeclaredStream) DocumentFault)
    (at_ports : List LinkEntry → List file.DeclaredStream → Result (List file.DeclaredLinkLocal) DocumentFault)
    (flows : Result (List file.DeclaredFlow) DocumentFault)
    (flows_there : List LinkEntry → List file.DeclaredFlow → Result (List file.DeclaredLinkLocalFlow) DocumentFault)
    (d : file.DeclaredDocument) : Type 0 where
  pub before : List StationEntry
  pub joined : List LinkEntry
  pub sent : List file.DeclaredStream
  pub flowing : List file.DeclaredFlow
  pub stations_are : stations ≡ Ok d.stations
  pub bridges_are : bridges before ≡ Ok d.bridges
  pub links_are : links ≡ Ok d.links
  pub streams_are : streams ≡ Ok d.streams
  pub locals_are : at_ports joined sent ≡ Ok d.link_locals
  pub flows_are : flows ≡ Ok d.flows
  pub local_flows_are : flows_there joined flowing ≡ Ok d.link_local_flows

entries_given : (format : Format) (stations : Result (List StationEntry) DocumentFault)
    (bridges : List StationEntry → Result (List BridgeEntry) DocumentFault)
    (links : Result (List LinkEntry) DocumentFault) (streams : Result (List file.DeclaredStream) DocumentFault)
    (at_ports : List LinkEntry → List file.DeclaredStream → Result (List file.DeclaredLinkLocal) DocumentFault)
    (flows : Result (List file.DeclaredFlow) DocumentFault)
    (flows_there : List LinkEntry → List file.DeclaredFlow → Result (List file.DeclaredLinkLocalFlow) DocumentFault)
    (d : file.DeclaredDocument)
    → (stations >>= λ stations. bridges stations >>= λ bridges. links >>= λ links. streams
    >>= λ streams. at_ports links streams >>= λ link_locals. flows >>= λ flows. flows_there links flows
    >>= λ link_local_flows.
    Ok (record {
      format = format;
      stations = stations;
      bridges = bridges;
      links = links;
      streams = streams;
      link_locals = link_locals;
      flows = flows;
      link_local_flows = link_local_flows;
    })) ≡ Ok d
    → EntriesGiven stations bridges links streams at_ports flows flows_there d
entries_given format stations bridges links streams at_ports flows flows_there d h =
    let a = both stations _ d h in
    let b = both (bridges a.first) _ d a.then in
    let c = both links _ d b.then in
    let s = both streams _ d c.then in
    let p = both (at_ports c.first s.first) _ d s.then in
    let l = both flows _ d p.then in
    let q = both (flows_there c.first l.first) _ d l.then in
    let same = ok_same _ d q.then in
    record {
      before = a.first;
      joined = c.first;
      sent = s.first;
      flowing = l.first;
      stations_are = given_as stations a.first d.stations a.is (ap (λ (x : file.DeclaredDocument). x.stations) same);
      bridges_are = given_as (bridges a.first) b.first d.bridges b.is
          (ap (λ (x : file.DeclaredDocument). x.bridges) same);
      links_are = given_as links c.first d.links c.is (ap (λ (x : file.DeclaredDocument). x.links) same);
      streams_are = given_as streams s.first d.streams s.is (ap (λ (x : file.DeclaredDocument). x.streams) same);
      locals_are = given_as (at_ports c.first s.first) p.first d.link_locals p.is
          (ap (λ (x : file.DeclaredDocument). x.link_locals) same);
      flows_are = given_as flows l.first d.flows l.is (ap (λ (x : file.DeclaredDocument). x.flows) same);
      local_flows_are = given_as (flows_there c.first l.first) q.first d.link_local_flows q.is
          (ap (λ (x : file.DeclaredDocument). x.link_local_flows) same);
    }

abbrev EntriesOf : Arrays → file.DeclaredDocument → Type 0
EntriesOf arrays d =
    EntriesGiven (entries_in station_in arrays.format Station 1024 arrays.stations)
    (λ stations. entries_in bridge_in arrays.format Bridge (1024 - length stations) arrays.bridges)
    (entries_in link_in arrays.format Link 2048 arrays.links)
    (entries_in stream_in arrays.format Stream 4096 arrays.streams)
    (λ links streams. entries_within link_local_in arrays.format LinkLocal 4096
    (senders_for streams arrays.link_locals links) arrays.link_locals)
    (entries_in flow_in arrays.format Flow 1024 arrays.flows)
    (λ links flows. entries_within link_local_flow_in arrays.format LinkLocalFlow 4096
    (senders_for flows arrays.link_local_flows links) arrays.link_local_flows) d

entries_of : (arrays : Arrays) (d : file.DeclaredDocument) → arrays_read arrays ≡ Ok d → EntriesOf arrays d
entries_of arrays d h =
    let f = arrays.format in
    entries_given f (entries_in station_in f Station 1024 arrays.stations)
    (λ stations. entries_in bridge_in f Bridge (1024 - length stations) arrays.bridges)
    (entries_in link_in f Link 2048 arrays.links) (entries_in stream_in f Stream 4096 arrays.streams)
    (λ links streams. entries_within link_local_in f LinkLocal 4096
    (senders_for streams arrays.link_locals links) arrays.link_locals)
    (entries_in flow_in f Flow 1024 arrays.flows)
    (λ links flows. entries_within link_local_flow_in f LinkLocalFlow 4096
    (senders_for flows arrays.link_local_flows links) arrays.link_local_flows) d h

declared_in : (tree : Members) (arrays : Arrays) (d : file.DeclaredDocument) → arrays_in (top_of tree) ≡ Ok arrays
    → arrays_read arrays ≡ Ok d → IsDeclaredIn tree d
declared_in tree arrays d given read =
    let top = top_of tree in
    let f = arrays.format in
    let a = top_arrays top arrays given in
    let e = entries_of arrays d read in
    record {
      stations = record {
        tables = arrays.stations;
        stand = tables_stand top key.Station arrays.stations a.stations_are;
        each = within_stands IsStationTable station_in f Station 1024 (length arrays.stations)
            (station_stands f Station) arrays.stations d.stations e.stations_are;
      };
      bridges = subst (λ (g : Format). StandIn (IsBridgeTable g) tree (key_text key.Bridge) d.bridges)
          (format_read arrays d read)
          (record {
            tables = arrays.bridges;
            stand = tables_stand top key.Bridge arrays.bridges a.bridges_are;
            each = within_stands (IsBridgeTable f) bridge_in f Bridge (1024 - length e.before)
                (length arrays.bridges) (bridge_stands f Bridge) arrays.bridges d.bridges e.bridges_are;
          });
      links = record {
        tables = arrays.links;
        stand = tables_stand top key.Link arrays.links a.links_are;
        each = within_stands IsLinkTable link_in f Link 2048 (length arrays.links) (link_stands f Link) arrays.links
            d.links e.links_are;
      };
      streams = record {
        tables = arrays.streams;
        stand = tables_stand top key.Stream arrays.streams a.streams_are;
        each = within_stands IsStreamTable stream_in f Stream 4096 (length arrays.streams) (stream_stands f Stream)
            arrays.streams d.streams e.streams_are;
      };
      link_locals = record {
        tables = arrays.link_locals;
        stand = tables_stand top key.LinkLocal arrays.link_locals a.locals_are;
        each = within_stands IsLinkLocalTable link_local_in f LinkLocal 4096
            (senders_for e.sent arrays.link_locals e.joined) (link_local_stands f LinkLocal) arrays.link_locals
            d.link_locals e.locals_are;
      };
      flows = record {
        tables = arrays.flows;
        stand = tables_stand top key.Flow arrays.flows a.flows_are;
        each = within_stands IsFlowTable flow_in f Flow 1024 (length arrays.flows) (flow_stands f Flow) arrays.flows
            d.flows e.flows_are;
      };
      link_local_flows = record {
        tables = arrays.link_local_flows;
        stand = tables_stand top key.LinkLocalFlow arrays.link_local_flows a.local_flows_are;
        each = within_stands IsLinkLocalFlowTable link_local_flow_in f LinkLocalFlow 4096
            (senders_for e.flowing arrays.link_local_flows e.joined) (link_local_flow_stands f LinkLocalFlow)
            arrays.link_local_flows d.link_local_flows e.local_flows_are;
      };
    }

pub tables_are_read : TablesAreRead
tables_are_read text tree d is h =
    let read : document_in tree ≡ Ok d =
    subst (λ (o : Option Members). (or_fault NotToml o >>= document_in) ≡ Ok d) is h in
    let arrays = both (arrays_in (top_of tree)) arrays_read d read in
    declared_in tree arrays.first d arrays.is arrays.then
