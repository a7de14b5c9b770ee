-- In a file of format 1 or 2 no bridge has a clock of its own.
use Rattle.std.proofs.Common.{◌≡◌, ℕ, ◌+◌, ◌-◌, Bool, true, false, cond, List, [], ◌∷◌, length, map}
use Rattle.std.proofs.Common.{All, Result, Ok, Err, refl, sym, ap, ◌∙◌, subst}
use Rattle.std.specs.Prelude.{nat_lt, ◌&&◌}
use Rattle.std.proofs.lemmas.List.Elements.{All-nil, All-cons, All-append, All-map, All-weaker}
use Rattle.ats_num.specs.Failure.{◌>>=◌, or_fault, unless}
use Rattle.ats_clock.specs.Clock.{declared_clock, ideal}
use Rattle.ats_topology.specs.Faults.{topology_fault}
use Rattle.ats_topology.specs.Node.{clock_of}
use Rattle.ats_topology.specs.Topology.{AreIdeal, DeclaredTopology, HasIdealClocks, topology_of}
use Rattle.ats_topology.specs.declared.node.Node.{Node}
use Rattle.ats_network.specs.Network.{DeclaredNetwork, network_within}
use Rattle.ats_network.specs.Pushes.{flow_push_fault, stream_push_fault, with_flow, with_stream}
use Rattle.ats_network_table.specs.Walk.{Entry, clock_at, formed, has, may_have_clock, name_at, short_at, top_of}
use Rattle.ats_network_table.specs.Words.{greatest_processing_key, least_processing_key}
use Rattle.ats_network_table.specs.declared.fault.DocumentFault.{DocumentFault}
use Rattle.ats_network_table.specs.declared.fault.DocumentFault.TheVariants as fault
use Rattle.ats_network_table.specs.declared.format.Format.{Format}
use Rattle.ats_network_table.specs.declared.format.Format.TheVariants.{One, Two, Three}
use Rattle.ats_network_table.specs.declared.key.Key.{Key}
use Rattle.ats_network_table.specs.declared.key.Key.TheVariants as key
use Rattle.ats_network_table.specs.declared.table.Table.TheVariants as table
use Rattle.ats_network_toml.specs.Document as file
use Rattle.ats_network_toml.specs.Entries.{bridge_in, flow_in, link_in, link_local_flow_in, link_local_in, station_in}
use Rattle.ats_network_toml.specs.Entries.{stream_in}
use Rattle.ats_network_toml.specs.Reading.{Arrays, arrays_in, arrays_read, document_in, document_of, entries_from}
use Rattle.ats_network_toml.specs.Reading.{entries_in, entries_within, senders_for, tree_of}
use Rattle.ats_network_toml.specs.declared.entries.BridgeEntry.{BridgeEntry}
use Rattle.ats_network_toml.specs.declared.entries.LinkEntry.{LinkEntry}
use Rattle.ats_network_toml.specs.declared.entries.StationEntry.{StationEntry}
use Rattle.ats_network_file.specs.Reading.{IsBeforeFormat3, bridge_of, links_of, most_ports_of, network_in, network_of}
use Rattle.ats_network_file.specs.Reading.{nodes_of, station_of, tables_of, topology_in}
use Rattle.ats_network_file.specs.Senders.{all_added, flow_added, flow_made, flow_over, flows_in, legs_in, path_in}
use Rattle.ats_network_file.specs.Senders.{refusal_of, stream_added, stream_made, stream_over, streams_in}
use Rattle.ats_network_file.specs.declared.fault.NetFault.{NetFault}
use Rattle.ats_network_file.specs.declared.fault.NetFault.TheVariants as net
use Rattle.ats_network_file.specs.declared.senders.Place.{Place}
use Rattle.ats_network_file.proofs.Documents.{document_kept, format_read}
use Rattle.ats_network_file.proofs.Steps.{both, unless_ok}

-- a bridge's entry has no clock
record HasNone (b : BridgeEntry) : Type 0 where
  ppm : b.clock_ppm ≡ 0
  step : b.clock_step_ps ≡ 0

-- nor is one read where there may be none
number_same : (n m : ℕ) → (let r : Result ℕ DocumentFault = Ok n in r) ≡ Ok m → n ≡ m
number_same n m h = cc h

no_clock : (e : Entry) (k : Key) (n : ℕ) → may_have_clock e.format ≡ false → clock_at e k ≡ Ok n → n ≡ 0
no_clock e k n none h =
    sym (number_same 0 n (ap (λ (t : Bool). cond (t && has e k) (short_at e k) (Ok 0)) (sym none) ∙ h))

bridge_same : (x y : BridgeEntry) → (let r : Result BridgeEntry DocumentFault = Ok x in r) ≡ Ok y → x ≡ y
bridge_same x y h = cc h

bridge_has_none : (e : Entry) (b : BridgeEntry) → may_have_clock e.format ≡ false → bridge_in e ≡ Ok b → HasNone b
bridge_has_none e b none h =
    let well = both (formed e) _ b h in
    let name = both (name_at e key.Name) _ b well.then in
    let least = both (short_at e (least_processing_key e.format)) _ b name.then in
    let most = both (short_at e (greatest_processing_key e.format)) _ b least.then in
    let residence = both (short_at e key.ResidenceNs) _ b most.then in
    let ppm = both (clock_at e key.ClockPpm) _ b residence.then in
    let step = both (clock_at e key.ClockStepPs) _ b ppm.then in
    record {
      ppm = sym (ap (λ (x : BridgeEntry). x.clock_ppm) (bridge_same _ b step.then))
          ∙ no_clock e key.ClockPpm ppm.first none ppm.is;
      step = sym (ap (λ (x : BridgeEntry). x.clock_step_ps) (bridge_same _ b step.then))
          ∙ no_clock e key.ClockStepPs step.first none step.is;
    }

-- so have those of an array, where the format has none
bridges_have_none : (f : Format) (n : ℕ) (tables : List _) (xs : List BridgeEntry) → may_have_clock f ≡ false
    → entries_from bridge_in f table.Bridge n tables ≡ Ok xs → All HasNone xs
bridges_have_none f n [] xs none h =
    let same : [] ≡ xs = cc in
    subst (All HasNone) same (All-nil HasNone)
bridges_have_none f n (ms ∷ tables) xs none h =
    let e : Entry = record { format = f; table = table.Bridge; number = n; members = ms } in
    let one = both (bridge_in e)
    (λ x. entries_from bridge_in f table.Bridge (n + 1) tables >>= λ more. Ok (x ∷ more)) xs h in
    let rest = both (entries_from bridge_in f table.Bridge (n + 1) tables) (λ more. Ok (one.first ∷ more)) xs
    one.then in
    let kept : All HasNone rest.first = bridges_have_none f (n + 1) tables rest.first none rest.is in
    let same : one.first ∷ rest.first ≡ xs = cc (rest.then) in
    subst (All HasNone) same
    (All-cons HasNone one.first rest.first (bridge_has_none e one.first none one.is) kept)

-- and those of a document
entries_have_none : (f : Format) (most : ℕ) (tables : List _) (xs : List BridgeEntry) → may_have_clock f ≡ false
    → entries_in bridge_in f table.Bridge most tables ≡ Ok xs → All HasNone xs
entries_have_none f most tables xs none h = by (nat_lt most (length tables)) h
  where
    by : (over : Bool)
        → cond over (Err (fault.Limit table.Bridge)) (entries_from bridge_in f table.Bridge 1 tables) ≡ Ok xs
        → All HasNone xs
    by true h = cc
    by false h = bridges_have_none f 1 tables xs none h

read_is : (x y : file.DeclaredDocument) → (let r : Result file.DeclaredDocument DocumentFault = Ok x in r) ≡ Ok y
    → x ≡ y
read_is x y h = cc h

bridges_from : (format : Format) (stations : Result (List StationEntry) DocumentFault)
    (bridges : List StationEntry → Result (List BridgeEntry) DocumentFault)
    (links : Result (List LinkEntry) DocumentFault)
    (streams : Result (List file.DeclaredStream) DocumentFault)
    (at_ports : List LinkEntry → List file.DeclaredStream → Result (List file.DeclaredLinkLocal) DocumentFault)
    (flows : Result (List file.DeclaredFlow) DocumentFault)
    (flows_there : List LinkEntry → List file.DeclaredFlow → Result (List file.DeclaredLinkLocalFlow) DocumentFault)
    → ((before : List StationEntry) (xs : List BridgeEntry) → bridges before ≡ Ok xs → All HasNone xs)
    → (d : file.DeclaredDocument)
    → (stations >>= λ stations. bridges stations >>= λ bridges. links >>= λ links. streams
    >>= λ streams. at_ports links streams >>= λ link_locals. flows >>= λ flows. flows_there links flows
    >>= λ link_local_flows.
    Ok (record {
      format = format;
      stations = stations;
      bridges = bridges;
      links = links;
      streams = streams;
      link_locals = link_locals;
      flows = flows;
      link_local_flows = link_local_flows;
    })) ≡ Ok d
    → All HasNone d.bridges
bridges_from format stations bridges links streams at_ports flows flows_there none d h =
    let a = both stations _ d h in
    let b = both (bridges a.first) _ d a.then in
    let c = both links _ d b.then in
    let s = both streams _ d c.then in
    let p = both (at_ports c.first s.first) _ d s.then in
    let l = both flows _ d p.then in
    let q = both (flows_there c.first l.first) _ d l.then in
    let same : b.first ≡ d.bridges = ap (λ (x : file.DeclaredDocument). x.bridges) (read_is _ d q.then) in
    subst (All HasNone) same (none a.first b.first b.is)

arrays_have_none : (arrays : Arrays) (d : file.DeclaredDocument) → may_have_clock arrays.format ≡ false
    → arrays_read arrays ≡ Ok d → All HasNone d.bridges
arrays_have_none arrays d none h =
    let f = arrays.format in
    bridges_from f (entries_in station_in f table.Station 1024 arrays.stations)
    (λ stations. entries_in bridge_in f table.Bridge (1024 - length stations) arrays.bridges)
    (entries_in link_in f table.Link 2048 arrays.links) (entries_in stream_in f table.Stream 4096 arrays.streams)
    (λ links streams. entries_within link_local_in f table.LinkLocal 4096
    (senders_for streams arrays.link_locals links) arrays.link_locals)
    (entries_in flow_in f table.Flow 1024 arrays.flows)
    (λ links flows. entries_within link_local_flow_in f table.LinkLocalFlow 4096
    (senders_for flows arrays.link_local_flows links) arrays.link_local_flows)
    (λ stations xs. entries_have_none f (1024 - length stations) arrays.bridges xs none) d h

-- a format that is not the third has none
none_in : (f : Format) → (f ≡ Three → ⊥) → may_have_clock f ≡ false
none_in One other = refl
none_in Two other = refl
none_in Three other = absurd (other refl)

document_has_none : (text : List ℕ) (d : file.DeclaredDocument) → IsBeforeFormat3 text → document_of text ≡ Ok d
    → All HasNone d.bridges
document_has_none text d before h =
    let tree = both (or_fault fault.NotToml (tree_of text)) document_in d h in
    let arrays = both (arrays_in (top_of tree.first)) arrays_read d tree.then in
    let format : arrays.first.format ≡ d.format = format_read arrays.first d arrays.then in
    arrays_have_none arrays.first d
    (none_in arrays.first.format
    (λ three. before ((document_kept text d h).format ∙ ap Ok (sym format ∙ three)))) arrays.then

-- the nodes of such a document go by the ideal clock
bridge_goes : (b : BridgeEntry) → HasNone b → clock_of (bridge_of b).kind ≡ ideal
bridge_goes b none =
    ap (λ (n : ℕ). declared_clock n b.clock_step_ps) none.ppm ∙ ap (λ (n : ℕ). declared_clock 0 n) none.step

nodes_go : (d : file.DeclaredDocument) → All HasNone d.bridges → AreIdeal (nodes_of d)
nodes_go d none =
    let Goes : Node → Type 0 = λ node. clock_of node.kind ≡ ideal in
    All-append Goes (map station_of d.stations) (map bridge_of d.bridges)
    (All-map Goes station_of d.stations (λ k s below. refl))
    (All-map Goes bridge_of d.bridges
    (All-weaker HasNone (λ (b : BridgeEntry). Goes (bridge_of b)) bridge_goes d.bridges none))

-- and senders that are added leave them as they are
stream_leaves : (format : Format) (network : DeclaredNetwork) (n : Place) (e : file.DeclaredStream)
    (next : DeclaredNetwork) → stream_added format network n e ≡ Ok next → network.topology ≡ next.topology
stream_leaves format network n e next h =
    let routed = both (legs_in format network.topology n e.routes)
    (λ legs. stream_made network.topology network.most_ports n e (stream_over legs e)
    >>= λ s. unless (refusal_of n) (stream_push_fault network s) (with_stream network s)) next h in
    let made = both (stream_made network.topology network.most_ports n e (stream_over routed.first e))
    (λ s. unless (refusal_of n) (stream_push_fault network s) (with_stream network s)) next routed.then in
    ap (λ (x : DeclaredNetwork). x.topology)
    (unless_ok (refusal_of n) (stream_push_fault network made.first) (with_stream network made.first) next
    made.then).same

flow_leaves : (format : Format) (network : DeclaredNetwork) (n : Place) (e : file.DeclaredFlow)
    (next : DeclaredNetwork) → flow_added format network n e ≡ Ok next → network.topology ≡ next.topology
flow_leaves format network n e next h =
    let routed = both (path_in format network.topology n e.route)
    (λ path. flow_made network.most_ports n (flow_over path e)
    >>= λ f. unless (refusal_of n) (flow_push_fault network f) (with_flow network f)) next h in
    let made = both (flow_made network.most_ports n (flow_over routed.first e))
    (λ f. unless (refusal_of n) (flow_push_fault network f) (with_flow network f)) next routed.then in
    ap (λ (x : DeclaredNetwork). x.topology)
    (unless_ok (refusal_of n) (flow_push_fault network made.first) (with_flow network made.first) next made.then).same

all_leave : {E : Type 0} (added : DeclaredNetwork → Place → E → Result DeclaredNetwork NetFault)
    → ((network : DeclaredNetwork) (n : Place) (e : E) (next : DeclaredNetwork) → added network n e ≡ Ok next
    → network.topology ≡ next.topology)
    → (network : DeclaredNetwork) (entries : List (Place × E)) (next : DeclaredNetwork)
    → all_added added network entries ≡ Ok next → network.topology ≡ next.topology
all_leave added leaves network [] next h =
    let same : network ≡ next = cc in
    ap (λ (x : DeclaredNetwork). x.topology) same
all_leave added leaves network (e ∷ entries) next h =
    let one = both (added network e.0 e.1) (λ mid. all_added added mid entries) next h in
    leaves network e.0 e.1 one.first one.is ∙ all_leave added leaves one.first entries next one.then

network_has : (d : file.DeclaredDocument) (network : DeclaredNetwork) → network_in d ≡ Ok network
    → topology_of (nodes_of d) (links_of d) ≡ network.topology
network_has d network h =
    let most : ℕ = most_ports_of d.format in
    let based = both (topology_in d)
    (λ t. all_added (stream_added d.format) (network_within t most [] []) (streams_in t d)
    >>= λ s. all_added (flow_added d.format) s (flows_in t d)) network h in
    let t : DeclaredTopology = based.first in
    let streamed = both (all_added (stream_added d.format) (network_within t most [] []) (streams_in t d))
    (λ s. all_added (flow_added d.format) s (flows_in t d)) network based.then in
    (unless_ok net.Topology (topology_fault (nodes_of d) (links_of d)) (topology_of (nodes_of d) (links_of d)) t
    based.is).same
    ∙ all_leave (stream_added d.format) (stream_leaves d.format) (network_within t most [] []) (streams_in t d)
    streamed.first streamed.is
    ∙ all_leave (flow_added d.format) (flow_leaves d.format) streamed.first (flows_in t d) network streamed.then

tables_ok : (r : Result file.DeclaredDocument DocumentFault) (d : file.DeclaredDocument) → tables_of r ≡ Ok d → r ≡ Ok d
tables_ok (Ok x) d h = cc
tables_ok (Err e) d h = cc

pub ideal_before : (bytes : List ℕ) (network : DeclaredNetwork) → IsBeforeFormat3 bytes → network_of bytes ≡ Ok network
    → HasIdealClocks network.topology
ideal_before bytes network before h =
    let read = both (tables_of (document_of bytes)) network_in network h in
    let none : All HasNone read.first.bridges =
    document_has_none bytes read.first before (tables_ok (document_of bytes) read.first read.is) in
    subst HasIdealClocks (network_has read.first network read.then) (nodes_go read.first none)
