-- Each node and each sender that a text declares has a proper name.
use Rattle.std.proofs.Common.{◌≡◌, ◌∙◌, ℕ, ◌+◌, ◌-◌, ◌≤◌, Bool, true, false, cond, List, [], ◌∷◌, ◌++◌, length}
use Rattle.std.proofs.Common.{map, Option, Some, None, Result, Ok, Err, refl, sym, ap, subst}
use Rattle.std.proofs.Common.{arith}
use Rattle.std.specs.Prelude.{IsTrue, nat_le, nat_lt, option_and_then}
use Rattle.std.specs.List.{All, AllZip, enumerate_from, flat_map}
use Rattle.std.proofs.lemmas.Bool.{leb-true}
use Rattle.std.proofs.lemmas.List.Elements.{All-append, All-cons, All-head, All-map, All-nil, All-tail}
use Rattle.toml.specs.Data.{Data, Members, as_str, get_member}
use Rattle.ats_num.specs.Name.{is_name, name_of}
use Rattle.ats_num.specs.Failure.{◌>>=◌, or_fault}
use Rattle.ats_topology.specs.Topology.{DeclaredTopology, HasLawfulPorts, IsTopology}
use Rattle.ats_topology.specs.declared.node.Node.{Node}
use Rattle.ats_topology.specs.declared.port.Port.{Port}
use Rattle.ats_topology.proofs.Rules.{ports_are_lawful}
use Rattle.ats_streams.specs.Stream.{DeclaredStream}
use Rattle.ats_streams.specs.Flow.{DeclaredFlow}
use Rattle.ats_network.specs.Network.{DeclaredNetwork}
use Rattle.ats_network.specs.Sender.{Sender, flow_sender, stream_sender}
use Rattle.ats_network_table.specs.Kinds.{name_in, short_name_in, some_where}
use Rattle.ats_network_table.specs.Walk.{clock_at, Entry, classes_at, formed, identity_at, long_at, name_at, short_at}
use Rattle.ats_network_table.specs.Walk.{short_name_at}
use Rattle.ats_network_table.specs.Walk.{top_of, wrong_kind}
use Rattle.ats_network_table.specs.Words.{greatest_processing_key, key_text, least_processing_key}
use Rattle.ats_network_table.specs.declared.fault.DocumentFault.{DocumentFault}
use Rattle.ats_network_table.specs.declared.fault.DocumentFault.TheVariants as fault
use Rattle.ats_network_table.specs.declared.format.Format.{Format}
use Rattle.ats_network_table.specs.declared.key.Key.TheVariants as key
use Rattle.ats_network_table.specs.declared.table.Table.{Table}
use Rattle.ats_network_table.specs.declared.table.Table.TheVariants as table
use Rattle.ats_network_toml.specs.Document as file
use Rattle.ats_network_toml.specs.Entries.{bridge_in, flow_in, link_in, numbers_in, route_at, routes_at}
use Rattle.ats_network_toml.specs.Entries.{link_local_flow_in, link_local_in, station_in, stream_in}
use Rattle.ats_network_toml.specs.Reading.{Arrays, arrays_in, arrays_read, document_in, document_of, entries_from}
use Rattle.ats_network_toml.specs.Reading.{entries_in, entries_within, senders_for, tree_of}
use Rattle.ats_network_toml.specs.declared.entries.BridgeEntry.{BridgeEntry}
use Rattle.ats_network_toml.specs.declared.entries.LinkEntry.{LinkEntry}
use Rattle.ats_network_toml.specs.declared.entries.StationEntry.{StationEntry}
use Rattle.ats_network_file.specs.LinkLocal as local
use Rattle.ats_network_file.specs.LinkLocal.{flow_at, flows_at, stream_at, streams_at}
use Rattle.ats_network_file.specs.Reading.{bridge_of, network_in, nodes_of, station_of, tables_of}
use Rattle.ats_network_file.proofs.Documents.{entries_kept, read_is}
use Rattle.ats_network_file.proofs.Networks.{declared_is_network}
use Rattle.ats_network_file.proofs.PortNames.{name_at_port}
use Rattle.ats_network_file.proofs.Steps.{both, or_fault_ok}
use Rattle.ats_network_file_law.specs.Entries.{IsFlowOf, IsNetworkOf, IsStreamOf, declared_flows, declared_streams}
use Rattle.ats_network_file_law.specs.Named.{EachNodeIsNamed, EachSenderIsNamed}
use Rattle.ats_network_file_law.proofs.Entries.{each_entry_stands}

-- a proper name
abbrev IsNamed : List ℕ → Type 0
IsNamed name = IsTrue (is_name name)

name_chosen : (text name : List ℕ) (passes : Bool) → is_name text ≡ passes
    → (let o : Option (List ℕ) = cond passes (Some text) None in o) ≡ Some name → IsNamed name
name_chosen text name true is h =
    let same : text ≡ name = cc h in
    subst IsNamed same is
name_chosen text name false is h = cc h

-- what stands with a key, where it is read as a name
name_read : (d : Option Data) (name : List ℕ) → option_and_then name_in d ≡ Some name → IsNamed name
name_read None name h = cc h
name_read (Some d) name h = by (as_str d) h
  where
    by : (text : Option (List ℕ)) → option_and_then name_of text ≡ Some name → IsNamed name
    by None h = cc h
    by (Some text) h = name_chosen text name (is_name text) refl h

name_kept : (e : Entry) (name : List ℕ) → name_at e key.Name ≡ Ok name → IsNamed name
name_kept e name h =
    name_read (get_member (key_text key.Name) e.members) name (or_fault_ok (wrong_kind e key.Name) _ name h)

-- a name that the number of a port may stand behind
record IsShort (name : List ℕ) : Type 0 where
  named : IsNamed name
  short : length name ≤ 26

short_kept : (e : Entry) (name : List ℕ) → short_name_at e key.Name ≡ Ok name → IsShort name
short_kept e name h =
    by (get_member (key_text key.Name) e.members) (or_fault_ok (wrong_kind e key.Name) _ name h)
  where
    tested : (text : List ℕ) (passes : Bool) → nat_le (length text) 26 ≡ passes → IsNamed text
        → (let o : Option (List ℕ) = cond passes (Some text) None in o) ≡ Some name → IsShort name
    tested text true few named g =
        let same : text ≡ name = cc g in
        subst IsShort same (record { named = named; short = leb-true (length text) 26 few })
    tested text false few named g = cc g

    read : (d : Data) (o : Option (List ℕ)) → name_in d ≡ o
        → option_and_then (λ text. some_where (nat_le (length text) 26) text) o ≡ Some name → IsShort name
    read d None e g = cc g
    read d (Some text) e g =
        tested text (nat_le (length text) 26) refl (name_read (Some d) text e) g

    by : (o : Option Data) → option_and_then short_name_in o ≡ Some name → IsShort name
    by None g = cc g
    by (Some d) g = read d (name_in d) refl g

-- what is read last does not change the name
made_named : {A B : Type 0} (name_of : B → List ℕ) (name : List ℕ) (read : Result A DocumentFault) (made : A → B)
    (x : B) → ((a : A) → name_of (made a) ≡ name) → (read >>= λ a. Ok (made a)) ≡ Ok x → name ≡ name_of x
made_named {A} {B} name_of name (Err e) made x same h = cc h
made_named {A} {B} name_of name (Ok a) made x same h =
    let is : made a ≡ x = cc h in
    sym (same a) ∙ ap name_of is

-- the entries of stations and bridges
station_kept : (e : Entry) (s : StationEntry) → station_in e ≡ Ok s → IsNamed s.name
station_kept e s h =
    let well = both (formed e) _ s h in
    let name = both (name_at e key.Name) _ s well.then in
    let made : StationEntry = record { name = name.first } in
    let same : made ≡ s = cc (name.then) in
    subst (λ (x : StationEntry). IsNamed x.name) same (name_kept e name.first name.is)

bridge_kept : (e : Entry) (b : BridgeEntry) → bridge_in e ≡ Ok b → IsNamed b.name
bridge_kept e b h =
    let well = both (formed e) _ b h in
    let name = both (name_at e key.Name) _ b well.then in
    let least = both (short_at e (least_processing_key e.format)) _ b name.then in
    let most = both (short_at e (greatest_processing_key e.format)) _ b least.then in
    let residence = both (short_at e key.ResidenceNs) _ b most.then in
    let ppm = both (clock_at e key.ClockPpm) _ b residence.then in
    subst IsNamed
    (made_named (λ (b : BridgeEntry). b.name) name.first (clock_at e key.ClockStepPs) _ b (λ n. refl) ppm.then)
    (name_kept e name.first name.is)

-- the entries of streams and flows
stream_kept : (e : Entry) (s : file.DeclaredStream) → stream_in e ≡ Ok s → IsNamed s.name
stream_kept e s h =
    let well = both (formed e) _ s h in
    let name = both (name_at e key.Name) _ s well.then in
    let routes = both (routes_at e) _ s name.then in
    let classes = both (classes_at e) _ s routes.then in
    let numbers = both (numbers_in e) _ s classes.then in
    subst IsNamed
    (made_named (λ (s : file.DeclaredStream). s.name) name.first (identity_at e) _ s (λ o. refl) numbers.then)
    (name_kept e name.first name.is)

flow_kept : (e : Entry) (f : file.DeclaredFlow) → flow_in e ≡ Ok f → IsNamed f.name
flow_kept e f h =
    let well = both (formed e) _ f h in
    let name = both (name_at e key.Name) _ f well.then in
    let route = both (route_at e) _ f name.then in
    subst IsNamed
    (made_named (λ (f : file.DeclaredFlow). f.name) name.first (long_at e key.MaxOctets) _ f (λ n. refl) route.then)
    (name_kept e name.first name.is)

link_local_kept : (e : Entry) (s : file.DeclaredLinkLocal) → link_local_in e ≡ Ok s → IsShort s.name
link_local_kept e s h =
    let well = both (formed e) _ s h in
    let name = both (short_name_at e key.Name) _ s well.then in
    let class = both (long_at e key.Class) _ s name.then in
    subst IsShort
    (made_named (λ (s : file.DeclaredLinkLocal). s.name) name.first (numbers_in e) _ s (λ m. refl) class.then)
    (short_kept e name.first name.is)

link_local_flow_kept : (e : Entry) (f : file.DeclaredLinkLocalFlow) → link_local_flow_in e ≡ Ok f → IsShort f.name
link_local_flow_kept e f h =
    let well = both (formed e) _ f h in
    let name = both (short_name_at e key.Name) _ f well.then in
    subst IsShort
    (made_named (λ (f : file.DeclaredLinkLocalFlow). f.name) name.first (long_at e key.MaxOctets) _ f (λ n. refl)
    name.then)
    (short_kept e name.first name.is)

-- what each entry keeps all entries of an array keep
array_kept : {A : Type 0} (P : A → Type 0) (read : Entry → Result A DocumentFault)
    → ((e : Entry) (x : A) → read e ≡ Ok x → P x)
    → (f : Format) (t : Table) (most many : ℕ) (tables : List Members) (xs : List A)
    → entries_within read f t most many tables ≡ Ok xs → All P xs
array_kept {A} P read keeps f t most many tables xs h = by (nat_lt most many) h
  where
    by : (over : Bool) → cond over (Err (fault.Limit t)) (entries_from read f t 1 tables) ≡ Ok xs → All P xs
    by true h = cc h
    by false h = entries_kept P read keeps f t 1 tables xs h

-- those of a document
record AreNamed (d : file.DeclaredDocument) : Type 0 where
  stations : All (λ (s : StationEntry). IsNamed s.name) d.stations
  bridges : All (λ (b : BridgeEntry). IsNamed b.name) d.bridges
  streams : All (λ (s : file.DeclaredStream). IsNamed s.name) d.streams
  link_locals : All (λ (s : file.DeclaredLinkLocal). IsShort s.name) d.link_locals
  flows : All (λ (f : file.DeclaredFlow). IsNamed f.name) d.flows
  link_local_flows : All (λ (f : file.DeclaredLinkLocalFlow). IsShort f.name) d.link_local_flows

-- what all arrays of a file keep, where the reading of each one gives what keeps it
arrays_from : (format : Format) (stations : Result (List StationEntry) DocumentFault)
    (bridges : List StationEntry → Result (List BridgeEntry) DocumentFault)
    (links : Result (List LinkEntry) DocumentFault) (streams : Result (List file.DeclaredStream) DocumentFault)
    (at_ports : List LinkEntry → List file.DeclaredStream → Result (List file.DeclaredLinkLocal) DocumentFault)
    (flows : Result (List file.DeclaredFlow) DocumentFault)
    (flows_there : List LinkEntry → List file.DeclaredFlow → Result (List file.DeclaredLinkLocalFlow) DocumentFault)
    → ((xs : List StationEntry) → stations ≡ Ok xs → All (λ (s : StationEntry). IsNamed s.name) xs)
    → ((before : List StationEntry) (xs : List BridgeEntry) → bridges before ≡ Ok xs
    → All (λ (b : BridgeEntry). IsNamed b.name) xs)
    → ((xs : List file.DeclaredStream) → streams ≡ Ok xs → All (λ (s : file.DeclaredStream). IsNamed s.name) xs)
    → ((ls : List LinkEntry) (ss : List file.DeclaredStream) (xs : List file.DeclaredLinkLocal) → at_ports ls ss ≡ Ok xs
    → All (λ (s : file.DeclaredLinkLocal). IsShort s.name) xs)
    → ((xs : List file.DeclaredFlow) → flows ≡ Ok xs → All (λ (f : file.DeclaredFlow). IsNamed f.name) xs)
    → ((ls : List LinkEntry) (fs : List file.DeclaredFlow) (xs : List file.DeclaredLinkLocalFlow)
    → flows_there ls fs ≡ Ok xs → All (λ (f : file.DeclaredLinkLocalFlow). IsShort f.name) xs)
    → (d : file.DeclaredDocument)
    → (stations >>= λ stations. bridges stations >>= λ bridges. links >>= λ links. streams
    >>= λ streams. at_ports links streams >>= λ link_locals. flows >>= λ flows. flows_there links flows
    >>= λ link_local_flows.
    Ok (record {
      format = format;
      stations = stations;
      bridges = bridges;
      links = links;
      streams = streams;
      link_locals = link_locals;
      flows = flows;
      link_local_flows = link_local_flows;
    })) ≡ Ok d
    → AreNamed d
arrays_from format stations bridges links streams at_ports flows flows_there stations_named bridges_named streams_named
    at_ports_named flows_named flows_there_named d h =
    let a = both stations _ d h in
    let b = both (bridges a.first) _ d a.then in
    let c = both links _ d b.then in
    let s = both streams _ d c.then in
    let p = both (at_ports c.first s.first) _ d s.then in
    let f = both flows _ d p.then in
    let q = both (flows_there c.first f.first) _ d f.then in
    let whole = read_is _ d q.then in
    let stations_are : a.first ≡ d.stations = ap (λ (x : file.DeclaredDocument). x.stations) whole in
    let bridges_are : b.first ≡ d.bridges = ap (λ (x : file.DeclaredDocument). x.bridges) whole in
    let streams_are : s.first ≡ d.streams = ap (λ (x : file.DeclaredDocument). x.streams) whole in
    let at_ports_are : p.first ≡ d.link_locals = ap (λ (x : file.DeclaredDocument). x.link_locals) whole in
    let flows_are : f.first ≡ d.flows = ap (λ (x : file.DeclaredDocument). x.flows) whole in
    let flows_there_are : q.first ≡ d.link_local_flows = ap (λ (x : file.DeclaredDocument). x.link_local_flows) whole in
    record {
      stations = subst (All (λ (s : StationEntry). IsNamed s.name)) stations_are (stations_named a.first a.is);
      bridges = subst (All (λ (b : BridgeEntry). IsNamed b.name)) bridges_are (bridges_named a.first b.first b.is);
      streams = subst (All (λ (s : file.DeclaredStream). IsNamed s.name)) streams_are (streams_named s.first s.is);
      link_locals = subst (All (λ (s : file.DeclaredLinkLocal). IsShort s.name)) at_ports_are
          (at_ports_named c.first s.first p.first p.is);
      flows = subst (All (λ (f : file.DeclaredFlow). IsNamed f.name)) flows_are (flows_named f.first f.is);
      link_local_flows = subst (All (λ (f : file.DeclaredLinkLocalFlow). IsShort f.name)) flows_there_are
          (flows_there_named c.first f.first q.first q.is);
    }

arrays_kept : (arrays : Arrays) (d : file.DeclaredDocument) → arrays_read arrays ≡ Ok d → AreNamed d
arrays_kept arrays d h =
    let f : Format = arrays.format in
    arrays_from f (entries_in station_in f table.Station 1024 arrays.stations)
    (λ stations. entries_in bridge_in f table.Bridge (1024 - length stations) arrays.bridges)
    (entries_in link_in f table.Link 2048 arrays.links) (entries_in stream_in f table.Stream 4096 arrays.streams)
    (λ links streams. entries_within link_local_in f table.LinkLocal 4096
    (senders_for streams arrays.link_locals links) arrays.link_locals)
    (entries_in flow_in f table.Flow 1024 arrays.flows)
    (λ links flows. entries_within link_local_flow_in f table.LinkLocalFlow 4096
    (senders_for flows arrays.link_local_flows links) arrays.link_local_flows)
    (λ xs is. array_kept (λ (s : StationEntry). IsNamed s.name) station_in station_kept f table.Station 1024
    (length arrays.stations) arrays.stations xs is)
    (λ before xs is. array_kept (λ (b : BridgeEntry). IsNamed b.name) bridge_in bridge_kept f table.Bridge
    (1024 - length before) (length arrays.bridges) arrays.bridges xs is)
    (λ xs is. array_kept (λ (s : file.DeclaredStream). IsNamed s.name) stream_in stream_kept f table.Stream 4096
    (length arrays.streams) arrays.streams xs is)
    (λ ls ss xs is. array_kept (λ (s : file.DeclaredLinkLocal). IsShort s.name) link_local_in link_local_kept f
    table.LinkLocal 4096 (senders_for ss arrays.link_locals ls) arrays.link_locals xs is)
    (λ xs is. array_kept (λ (l : file.DeclaredFlow). IsNamed l.name) flow_in flow_kept f table.Flow 1024
    (length arrays.flows) arrays.flows xs is)
    (λ ls fs xs is. array_kept (λ (l : file.DeclaredLinkLocalFlow). IsShort l.name) link_local_flow_in
    link_local_flow_kept f table.LinkLocalFlow 4096 (senders_for fs arrays.link_local_flows ls)
    arrays.link_local_flows xs is) d h

document_kept : (text : List ℕ) (d : file.DeclaredDocument) → document_of text ≡ Ok d → AreNamed d
document_kept text d h =
    let tree = both (or_fault fault.NotToml (tree_of text)) document_in d h in
    let arrays = both (arrays_in (top_of tree.first)) arrays_read d tree.then in
    arrays_kept arrays.first d arrays.then

-- what holds of all holds of their fellows in another list
fellows : {A B : Type 0} (R : A → B → Type 0) (P : A → Type 0) (Q : B → Type 0) (xs : List A) (ys : List B)
    → ((x : A) (y : B) → R x y → P x → Q y) → AllZip R xs ys → All P xs → All Q ys
fellows R P Q [] [] next zipped all = All-nil Q
fellows R P Q [] (y ∷ ys) next zipped all = absurd zipped
fellows R P Q (x ∷ xs) [] next zipped all = absurd zipped
fellows R P Q (x ∷ xs) (y ∷ ys) next zipped all =
    All-cons Q y ys (next x y zipped.0 (All-head P x xs all))
    (fellows R P Q xs ys next zipped.1 (All-tail P x xs all))

-- the names of what an entry stands for at the ports of a topology
ports_named : {S : Type 0} (name_of : S → List ℕ) (name : List ℕ) (made : ℕ × Port → S)
    → ((port : ℕ × Port) → name_of (made port) ≡ local.name_at name port.0) → IsShort name → (n : ℕ) (ports : List Port)
    → n + length ports ≤ 10000 → All (λ s. IsNamed (name_of s)) (map made (enumerate_from n ports))
ports_named name_of name made is short n [] few = All-nil (λ s. IsNamed (name_of s))
ports_named name_of name made is short n (port ∷ ports) few =
    All-cons (λ s. IsNamed (name_of s)) (made (n, port)) (map made (enumerate_from (n + 1) ports))
    (subst IsNamed (sym (is (n, port))) (name_at_port name n short.named short.short (omega (arith, few))))
    (ports_named name_of name made is short (n + 1) ports (omega (arith, few)))

all_there : {E S : Type 0} (name_of : S → List ℕ) (at : E → List S) (P : E → Type 0)
    → ((e : E) → P e → All (λ s. IsNamed (name_of s)) (at e)) → (es : List E) → All P es
    → All (λ s. IsNamed (name_of s)) (flat_map at es)
all_there name_of at P each [] all = All-nil (λ s. IsNamed (name_of s))
all_there name_of at P each (e ∷ es) all =
    All-append (λ s. IsNamed (name_of s)) (at e) (flat_map at es) (each e (All-head P e es all))
    (all_there name_of at P each es (All-tail P e es all))

streams_named : (d : file.DeclaredDocument) (topology : DeclaredTopology) → length topology.ports ≤ 10000 → AreNamed d
    → All (λ (s : file.DeclaredStream). IsNamed s.name) (declared_streams topology d)
streams_named d topology few named =
    All-append (λ (s : file.DeclaredStream). IsNamed s.name) d.streams (flat_map (streams_at topology) d.link_locals)
    named.streams
    (all_there (λ (s : file.DeclaredStream). s.name) (streams_at topology)
    (λ (e : file.DeclaredLinkLocal). IsShort e.name)
    (λ e short. ports_named (λ (s : file.DeclaredStream). s.name) e.name (stream_at topology e) (λ port. refl) short 0
    topology.ports (omega (arith, few))) d.link_locals named.link_locals)

flows_named : (d : file.DeclaredDocument) (topology : DeclaredTopology) → length topology.ports ≤ 10000 → AreNamed d
    → All (λ (f : file.DeclaredFlow). IsNamed f.name) (declared_flows topology d)
flows_named d topology few named =
    All-append (λ (f : file.DeclaredFlow). IsNamed f.name) d.flows (flat_map (flows_at topology) d.link_local_flows)
    named.flows
    (all_there (λ (f : file.DeclaredFlow). f.name) (flows_at topology)
    (λ (e : file.DeclaredLinkLocalFlow). IsShort e.name)
    (λ e short. ports_named (λ (f : file.DeclaredFlow). f.name) e.name (flow_at topology e) (λ port. refl) short 0
    topology.ports (omega (arith, few))) d.link_local_flows named.link_local_flows)

network_named : (d : file.DeclaredDocument) (network : DeclaredNetwork) → IsNetworkOf d network → AreNamed d
    → length network.topology.ports ≤ 10000
    → All (λ (s : Sender). IsNamed s.name) (map stream_sender network.streams ++ map flow_sender network.flows)
network_named d network is named few =
    All-append (λ (s : Sender). IsNamed s.name) (map stream_sender network.streams) (map flow_sender network.flows)
    (All-map (λ (s : Sender). IsNamed s.name) stream_sender network.streams
    (fellows (IsStreamOf network.topology) (λ (e : file.DeclaredStream). IsNamed e.name)
    (λ (s : DeclaredStream). IsNamed s.name) (declared_streams network.topology d) network.streams
    (λ e s of name. subst IsNamed (sym of.name) name) is.streams (streams_named d network.topology few named)))
    (All-map (λ (s : Sender). IsNamed s.name) flow_sender network.flows
    (fellows (IsFlowOf network.topology) (λ (e : file.DeclaredFlow). IsNamed e.name)
    (λ (f : DeclaredFlow). IsNamed f.name) (declared_flows network.topology d) network.flows
    (λ e f of name. subst IsNamed (sym of.name) name) is.flows (flows_named d network.topology few named)))

-- a topology has at most two ports for each of at most 2048 links
few_ports : (topology : DeclaredTopology) → IsTopology topology → length topology.ports ≤ 10000
few_ports topology is =
    let lawful : HasLawfulPorts topology = ports_are_lawful topology is in
    omega (arith, lawful.two_each, is.few_links)

tables_are : (r : Result file.DeclaredDocument DocumentFault) (d : file.DeclaredDocument) → tables_of r ≡ Ok d
    → r ≡ Ok d
tables_are (Ok x) d h = ap Ok (cc h)
tables_are (Err e) d h = cc h

pub each_sender_is_named : EachSenderIsNamed
each_sender_is_named text network h =
    let read = both (tables_of (document_of text)) network_in network h in
    let document = tables_are (document_of text) read.first read.is in
    network_named read.first network (each_entry_stands text read.first network document h)
    (document_kept text read.first document)
    (few_ports network.topology (declared_is_network text network h).topology)

nodes_named : (d : file.DeclaredDocument) → AreNamed d → All (λ (n : Node). IsNamed n.name) (nodes_of d)
nodes_named d named =
    All-append (λ (n : Node). IsNamed n.name) (map station_of d.stations) (map bridge_of d.bridges)
    (All-map (λ (n : Node). IsNamed n.name) station_of d.stations named.stations)
    (All-map (λ (n : Node). IsNamed n.name) bridge_of d.bridges named.bridges)

pub each_node_is_named : EachNodeIsNamed
each_node_is_named text network h =
    let read = both (tables_of (document_of text)) network_in network h in
    let document = tables_are (document_of text) read.first read.is in
    let stands = each_entry_stands text read.first network document h in
    subst (λ (nodes : List Node). All (λ (n : Node). IsNamed n.name) nodes) (sym stands.nodes)
    (nodes_named read.first (document_kept text read.first document))
