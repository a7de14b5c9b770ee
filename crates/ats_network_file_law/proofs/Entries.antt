-- Each entry of a document stands in its network.
use Rattle.std.proofs.Common.{◌≡◌, ◌∙◌, ℕ, ◌+◌, List, [], ◌∷◌, ◌++◌, Some, None, Result, Ok, Err, refl, sym, ap}
use Rattle.std.proofs.Common.{append_assoc, subst}
use Rattle.std.specs.Prelude.{map}
use Rattle.std.specs.List.{flat_map}
use Rattle.std.proofs.lemmas.List.{append-nil, map-append}
use Rattle.std.specs.List.{All, AllZip}
use Rattle.std.proofs.lemmas.List.Elements.{All-head, All-tail}
use Rattle.ats_num.specs.Failure.{◌>>=◌, ok_where, or_fault, unless}
use Rattle.ats_topology.specs.Faults.{topology_fault}
use Rattle.ats_topology.specs.Topology.{DeclaredTopology, topology_of}
use Rattle.ats_streams.specs.Stream.{DeclaredStream}
use Rattle.ats_streams.specs.Flow.{DeclaredFlow, flow_fault_within}
use Rattle.ats_network.specs.Network.{DeclaredNetwork, network_within}
use Rattle.ats_network.specs.Path.{IsValidPath}
use Rattle.ats_network.specs.Pushes.{flow_push_fault, stream_push_fault, with_flow, with_stream}
use Rattle.ats_route_tree.specs.Legs.{DeclaredLegs}
use Rattle.ats_route_tree.proofs.Found.{have_valid}
use Rattle.ats_network_table.specs.declared.fault.DocumentFault.{DocumentFault}
use Rattle.ats_network_toml.specs.Document as file
use Rattle.ats_network_toml.specs.Reading.{document_of}
use Rattle.ats_network_table.specs.declared.format.Format.{Format}
use Rattle.ats_network_file.specs.Reading.{links_of, most_ports_of, network_in, network_of, nodes_of, tables_of}
use Rattle.ats_network_file.specs.Reading.{topology_in}
use Rattle.ats_network_file.specs.Routes.{is_valid, may_declare, ports_of}
use Rattle.ats_network_file.specs.Senders.{all_added, flow_added, flow_made, flow_over, legs_in, path_in, refusal_of}
use Rattle.ats_network_file.specs.Senders.{alone, at_place, flows_in, placed, stream_added, stream_made, stream_over}
use Rattle.ats_network_file.specs.Senders.{stream_fault_over, streams_in}
use Rattle.ats_network_file.specs.LinkLocal.{flows_at, streams_at}
use Rattle.ats_network_file.specs.declared.senders.Place.{Place}
use Rattle.ats_network_file.specs.declared.senders.SenderTable.{SenderTable}
use Rattle.ats_network_file.specs.declared.senders.SenderTable.TheVariants.{Flow, LinkLocal, LinkLocalFlow, Stream}
use Rattle.ats_network_file.specs.declared.fault.NetFault.{NetFault}
use Rattle.ats_network_file.specs.declared.fault.NetFault.TheVariants as net
use Rattle.ats_network_file.proofs.Steps.{Given, Sound, both, ok_where_ok, or_fault_ok, unless_ok}
use Rattle.ats_network_file.proofs.ValidPaths.{valid_passed}
use Rattle.ats_network_file_law.specs.Entries.{EachEntryStands, IsFlowOf, IsNetworkOf, IsPathOf, IsStreamOf}
use Rattle.ats_network_file_law.specs.Entries.{declared_flows, declared_streams}
use Rattle.ats_network_file_law.specs.SenderFaults.{HasPorts, IsRouted}
use Rattle.ats_network_file_law.specs.SenderFaults as entry
use Rattle.ats_network_file_law.proofs.Paths.{path_of_route}
use Rattle.ats_network_file_law.proofs.Routed.{stream_reads}

-- a path is valid, and that of a route
record IsFound (topology : DeclaredTopology) (route : file.DeclaredRoute) (path : List ℕ) : Type 0 where
  valid : IsValidPath topology path
  of_route : IsPathOf topology route path

path_found : (format : Format) (topology : DeclaredTopology) (n : Place) (route : file.DeclaredRoute) (path : List ℕ)
    → path_in format topology n route ≡ Ok path → IsFound topology route path
path_found format topology n route path h =
    let read = both (or_fault (net.BadPath n.table n.number) (ports_of topology route))
    (λ p. ok_where (is_valid topology p) (net.BadPath n.table n.number) p
    >>= λ v. ok_where (may_declare format topology (v ∷ [])) (net.BadPath n.table n.number) v) path h in
    let checked = both (ok_where (is_valid topology read.first) (net.BadPath n.table n.number) read.first)
    (λ v. ok_where (may_declare format topology (v ∷ [])) (net.BadPath n.table n.number) v) path read.then in
    let given : Given (is_valid topology read.first) read.first checked.first =
    ok_where_ok (is_valid topology read.first) (net.BadPath n.table n.number) read.first checked.first checked.is in
    let may : Given (may_declare format topology (checked.first ∷ [])) checked.first path =
    ok_where_ok (may_declare format topology (checked.first ∷ [])) (net.BadPath n.table n.number) checked.first path
    checked.then in
    let valid : IsValidPath topology path =
    subst (λ p. IsValidPath topology p) (given.same ∙ may.same) (valid_passed topology read.first given.passed) in
    let at = or_fault_ok (net.BadPath n.table n.number) (ports_of topology route) read.first read.is
    ∙ ap Some (given.same ∙ may.same) in
    record { valid = valid; of_route = path_of_route topology route path at valid }

-- the ports of the routes of an entry are those of the routes, one by one
routes_stand : (topology : DeclaredTopology) (routes : List file.DeclaredRoute) (paths : List (List ℕ))
    → AllZip (HasPorts topology) routes paths → All (IsValidPath topology) paths
    → AllZip (IsPathOf topology) routes paths
routes_stand topology [] [] zipped valid = tt
routes_stand topology [] (path ∷ paths) zipped valid = absurd zipped
routes_stand topology (route ∷ routes) [] zipped valid = absurd zipped
routes_stand topology (route ∷ routes) (path ∷ paths) zipped valid = (
  path_of_route topology route path zipped.0 (All-head (IsValidPath topology) path paths valid),
  routes_stand topology routes paths zipped.1 (All-tail (IsValidPath topology) path paths valid),
)

-- what one entry adds: a sender that is its own, behind those that are there
pub record AddsStream (format : Format) (n : Place) (network next : DeclaredNetwork) (e : file.DeclaredStream)
    : Type 0 where
  pub stream : DeclaredStream
  pub is_of : IsStreamOf network.topology e stream
  pub legs : DeclaredLegs
  pub routed : IsRouted format network.topology (entry.stream n e) legs
  pub ports : stream.ports ≡ legs.ports
  pub added : next ≡ with_stream network stream

pub stream_stands : (format : Format) (network : DeclaredNetwork) (n : Place) (e : file.DeclaredStream)
    (next : DeclaredNetwork) → stream_added format network n e ≡ Ok next → AddsStream format n network next e
stream_stands format network n e next h =
    let read = both (legs_in format network.topology n e.routes)
    (λ legs. stream_made network.topology network.most_ports n e (stream_over legs e)
    >>= λ s. unless (refusal_of n) (stream_push_fault network s) (with_stream network s)) next h in
    let stream : DeclaredStream = stream_over read.first e in
    let made = both (stream_made network.topology network.most_ports n e stream)
    (λ s. unless (refusal_of n) (stream_push_fault network s) (with_stream network s)) next read.then in
    let sound : Sound (stream_fault_over network.topology network.most_ports e.classes stream) stream made.first =
    unless_ok (net.Sender n.table n.number) (stream_fault_over network.topology network.most_ports e.classes stream)
    stream made.first made.is in
    let pushed : Sound (stream_push_fault network made.first) (with_stream network made.first) next =
    unless_ok (refusal_of n) (stream_push_fault network made.first) (with_stream network made.first) next
    made.then in
    let routed : IsRouted format network.topology (entry.stream n e) read.first =
    (stream_reads format network.topology e n).some read.first read.is in
    let stand : AllZip (IsPathOf network.topology) e.routes routed.routes =
    routes_stand network.topology e.routes routed.routes routed.ports
    (have_valid network.topology routed.routes read.first routed.have) in
    record {
      stream = stream;
      is_of = record {
        name = refl;
        branches = routed.have.are;
        tree = routed.have.tree;
        routes = subst (λ (rs : List (List ℕ)). AllZip (IsPathOf network.topology) e.routes rs)
            (sym routed.have.routes_are) stand;
        classes = refl;
        rate = refl;
        burst = refl;
        least = refl;
        greatest = refl;
        deadline = refl;
        identity = refl;
      };
      legs = read.first;
      routed = routed;
      ports = refl;
      added = sym pushed.same ∙ ap (with_stream network) (sym sound.same);
    }

pub record AddsFlow (network next : DeclaredNetwork) (e : file.DeclaredFlow) : Type 0 where
  pub flow : DeclaredFlow
  pub is_of : IsFlowOf network.topology e flow
  pub added : next ≡ with_flow network flow

pub flow_stands : (format : Format) (network : DeclaredNetwork) (n : Place) (e : file.DeclaredFlow)
    (next : DeclaredNetwork) → flow_added format network n e ≡ Ok next → AddsFlow network next e
flow_stands format network n e next h =
    let routed = both (path_in format network.topology n e.route)
    (λ path. flow_made network.most_ports n (flow_over path e)
    >>= λ f. unless (refusal_of n) (flow_push_fault network f) (with_flow network f)) next h in
    let flow : DeclaredFlow = flow_over routed.first e in
    let made = both (flow_made network.most_ports n flow)
    (λ f. unless (refusal_of n) (flow_push_fault network f) (with_flow network f)) next routed.then in
    let sound : Sound (flow_fault_within network.most_ports flow) flow made.first =
    unless_ok (net.Sender n.table n.number) (flow_fault_within network.most_ports flow) flow made.first made.is in
    let pushed : Sound (flow_push_fault network made.first) (with_flow network made.first) next =
    unless_ok (refusal_of n) (flow_push_fault network made.first) (with_flow network made.first) next
    made.then in
    let found = path_found format network.topology n e.route routed.first routed.is in
    record {
      flow = flow;
      is_of = record { name = refl; route = found.of_route; valid = found.valid; greatest = refl };
      added = sym pushed.same ∙ ap (with_flow network) (sym sound.same);
    }

-- what all entries of an array add behind the streams that are there
pub record AddsStreams (network next : DeclaredNetwork) (entries : List (Place × file.DeclaredStream)) : Type 0 where
  pub streams : List DeclaredStream
  pub are_of : AllZip (IsStreamOf network.topology) (map (λ e. e.1) entries) streams
  pub topology : next.topology ≡ network.topology
  pub most : next.most_ports ≡ network.most_ports
  pub behind : next.streams ≡ network.streams ++ streams
  pub flows : next.flows ≡ network.flows

pub streams_stand : (format : Format) (network : DeclaredNetwork) (entries : List (Place × file.DeclaredStream))
    (next : DeclaredNetwork) → all_added (stream_added format) network entries ≡ Ok next
    → AddsStreams network next entries
streams_stand format network [] next h =
    let same : network ≡ next = cc h in
    record {
      streams = [];
      are_of = tt;
      topology = ap (λ (m : DeclaredNetwork). m.topology) (sym same);
      most = ap (λ (m : DeclaredNetwork). m.most_ports) (sym same);
      behind = ap (λ (m : DeclaredNetwork). m.streams) (sym same) ∙ sym (append-nil network.streams);
      flows = ap (λ (m : DeclaredNetwork). m.flows) (sym same);
    }
streams_stand format network (e ∷ entries) next h =
    let one = both (stream_added format network e.0 e.1)
    (λ mid. all_added (stream_added format) mid entries) next h in
    let first = stream_stands format network e.0 e.1 one.first one.is in
    let more = streams_stand format one.first entries next one.then in
    let over : one.first.topology ≡ network.topology = ap (λ (m : DeclaredNetwork). m.topology) first.added in
    record {
      streams = first.stream ∷ more.streams;
      are_of = (
        first.is_of,
        subst (λ (t : DeclaredTopology). AllZip (IsStreamOf t) (map (λ e. e.1) entries) more.streams) over more.are_of,
      );
      topology = more.topology ∙ over;
      most = more.most ∙ ap (λ (m : DeclaredNetwork). m.most_ports) first.added;
      behind = more.behind ∙ ap (λ (m : DeclaredNetwork). m.streams ++ more.streams) first.added
          ∙ append_assoc network.streams (first.stream ∷ []) more.streams;
      flows = more.flows ∙ ap (λ (m : DeclaredNetwork). m.flows) first.added;
    }

-- and behind the flows
record AddsFlows (network next : DeclaredNetwork) (entries : List (Place × file.DeclaredFlow)) : Type 0 where
  flows : List DeclaredFlow
  are_of : AllZip (IsFlowOf network.topology) (map (λ e. e.1) entries) flows
  topology : next.topology ≡ network.topology
  most : next.most_ports ≡ network.most_ports
  behind : next.flows ≡ network.flows ++ flows
  streams : next.streams ≡ network.streams

flows_stand : (format : Format) (network : DeclaredNetwork) (entries : List (Place × file.DeclaredFlow))
    (next : DeclaredNetwork) → all_added (flow_added format) network entries ≡ Ok next
    → AddsFlows network next entries
flows_stand format network [] next h =
    let same : network ≡ next = cc h in
    record {
      flows = [];
      are_of = tt;
      topology = ap (λ (m : DeclaredNetwork). m.topology) (sym same);
      most = ap (λ (m : DeclaredNetwork). m.most_ports) (sym same);
      behind = ap (λ (m : DeclaredNetwork). m.flows) (sym same) ∙ sym (append-nil network.flows);
      streams = ap (λ (m : DeclaredNetwork). m.streams) (sym same);
    }
flows_stand format network (e ∷ entries) next h =
    let one = both (flow_added format network e.0 e.1) (λ mid. all_added (flow_added format) mid entries) next h in
    let first = flow_stands format network e.0 e.1 one.first one.is in
    let more = flows_stand format one.first entries next one.then in
    let over : one.first.topology ≡ network.topology = ap (λ (m : DeclaredNetwork). m.topology) first.added in
    record {
      flows = first.flow ∷ more.flows;
      are_of = (
        first.is_of,
        subst (λ (t : DeclaredTopology). AllZip (IsFlowOf t)
            (map (λ e. e.1) entries) more.flows) over more.are_of,
      );
      topology = more.topology ∙ over;
      most = more.most ∙ ap (λ (m : DeclaredNetwork). m.most_ports) first.added;
      behind = more.behind ∙ ap (λ (m : DeclaredNetwork). m.flows ++ more.flows) first.added
          ∙ append_assoc network.flows (first.flow ∷ []) more.flows;
      streams = more.streams ∙ ap (λ (m : DeclaredNetwork). m.streams) first.added;
    }

-- the senders that entries stand for, without their places
placed_flat : {E S : Type 0} (each : E → List S) (table : SenderTable) (n : ℕ) (entries : List E)
    → map (λ x. x.1) (placed each table n entries) ≡ flat_map each entries
placed_flat each table n [] = refl
placed_flat {E} {S} each table n (e ∷ entries) =
    let place : Place = record { table = table; number = n } in
    map-append (λ (x : Place × S). x.1) (map (at_place place) (each e)) (placed each table (n + 1) entries)
    ∙ ap (λ ss. ss ++ map (λ (x : Place × S). x.1) (placed each table (n + 1) entries)) (same place (each e))
    ∙ ap (λ ss. each e ++ ss) (placed_flat each table (n + 1) entries)
  where
    same : (place : Place) (senders : List S) → map (λ (x : Place × S). x.1) (map (at_place place) senders) ≡ senders
    same place [] = refl
    same place (s ∷ senders) = ap (λ ss. s ∷ ss) (same place senders)

placed_alone : {E : Type 0} (table : SenderTable) (n : ℕ) (entries : List E)
    → map (λ x. x.1) (placed alone table n entries) ≡ entries
placed_alone table n [] = refl
placed_alone table n (e ∷ entries) = ap (λ es. e ∷ es) (placed_alone table (n + 1) entries)

pub both_flat : {E L : Type 0} (each : L → List E) (table there : SenderTable) (entries : List E) (at_ports : List L)
    → map (λ x. x.1) (placed alone table 1 entries ++ placed each there 1 at_ports) ≡ entries ++ flat_map each at_ports
both_flat {E} each table there entries at_ports =
    map-append (λ (x : Place × E). x.1) (placed alone table 1 entries) (placed each there 1 at_ports)
    ∙ ap (λ es. es ++ map (λ (x : Place × E). x.1) (placed each there 1 at_ports)) (placed_alone table 1 entries)
    ∙ ap (λ es. entries ++ es) (placed_flat each there 1 at_ports)

document_stands : (d : file.DeclaredDocument) (network : DeclaredNetwork) → network_in d ≡ Ok network
    → IsNetworkOf d network
document_stands d network h =
    let most : ℕ = most_ports_of d.format in
    let based = both (topology_in d)
    (λ t. all_added (stream_added d.format) (network_within t most [] []) (streams_in t d)
    >>= λ s. all_added (flow_added d.format) s (flows_in t d)) network h in
    let t : DeclaredTopology = based.first in
    let streamed = both (all_added (stream_added d.format) (network_within t most [] []) (streams_in t d))
    (λ s. all_added (flow_added d.format) s (flows_in t d)) network based.then in
    let sound : Sound (topology_fault (nodes_of d) (links_of d)) (topology_of (nodes_of d) (links_of d)) t =
    unless_ok net.Topology (topology_fault (nodes_of d) (links_of d)) (topology_of (nodes_of d) (links_of d))
    t based.is in
    let streams = streams_stand d.format (network_within t most [] []) (streams_in t d) streamed.first streamed.is in
    let flows = flows_stand d.format streamed.first (flows_in t d) network streamed.then in
    let over : network.topology ≡ t = flows.topology ∙ streams.topology in
    record {
      nodes = ap (λ (t : DeclaredTopology). t.nodes) (over ∙ sym sound.same);
      links = ap (λ (t : DeclaredTopology). t.links) (over ∙ sym sound.same);
      most = flows.most ∙ streams.most;
      streams = subst (AllZip (IsStreamOf network.topology) (declared_streams network.topology d))
          (sym (flows.streams ∙ streams.behind))
          (subst (λ (t : DeclaredTopology). AllZip (IsStreamOf t) (declared_streams t d) streams.streams) (sym over)
          (subst (λ es. AllZip (IsStreamOf t) es streams.streams)
          (both_flat (streams_at t) Stream LinkLocal d.streams d.link_locals) streams.are_of));
      flows = subst (AllZip (IsFlowOf network.topology) (declared_flows network.topology d))
          (sym (flows.behind ∙ ap (λ fs. fs ++ flows.flows) streams.flows))
          (subst (λ (t : DeclaredTopology). AllZip (IsFlowOf t) (declared_flows t d) flows.flows) (sym over)
          (subst (λ es. AllZip (IsFlowOf t) es flows.flows)
          (both_flat (flows_at t) Flow LinkLocalFlow d.flows d.link_local_flows)
          (subst (λ (u : DeclaredTopology). AllZip (IsFlowOf u) (map (λ e. e.1) (flows_in t d)) flows.flows)
          streams.topology flows.are_of)));
    }

-- a network is over the topology of the document's nodes and links, which have no fault
pub record IsOver (d : file.DeclaredDocument) (network : DeclaredNetwork) : Type 0 where
  pub none : topology_fault (nodes_of d) (links_of d) ≡ None
  pub topology : network.topology ≡ topology_of (nodes_of d) (links_of d)

document_over : (d : file.DeclaredDocument) (network : DeclaredNetwork) → network_in d ≡ Ok network → IsOver d network
document_over d network h =
    let most : ℕ = most_ports_of d.format in
    let based = both (topology_in d)
    (λ t. all_added (stream_added d.format) (network_within t most [] []) (streams_in t d)
    >>= λ s. all_added (flow_added d.format) s (flows_in t d)) network h in
    let t : DeclaredTopology = based.first in
    let streamed = both (all_added (stream_added d.format) (network_within t most [] []) (streams_in t d))
    (λ s. all_added (flow_added d.format) s (flows_in t d)) network based.then in
    let sound : Sound (topology_fault (nodes_of d) (links_of d)) (topology_of (nodes_of d) (links_of d)) t =
    unless_ok net.Topology (topology_fault (nodes_of d) (links_of d)) (topology_of (nodes_of d) (links_of d))
    t based.is in
    let streams = streams_stand d.format (network_within t most [] []) (streams_in t d) streamed.first streamed.is in
    let flows = flows_stand d.format streamed.first (flows_in t d) network streamed.then in
    record { none = sound.none; topology = flows.topology ∙ streams.topology ∙ sym sound.same }

tables_ok : (r : Result file.DeclaredDocument DocumentFault) (d : file.DeclaredDocument) → r ≡ Ok d
    → tables_of r ≡ Ok d
tables_ok (Ok x) d h = ap Ok (cc h)
tables_ok (Err e) d h = cc h

-- a document that is read is one
one_value : (r : Result file.DeclaredDocument NetFault) (x y : file.DeclaredDocument) → r ≡ Ok x → r ≡ Ok y → x ≡ y
one_value (Ok z) x y h k =
    let one : z ≡ x = cc h in
    let two : z ≡ y = cc k in
    sym one ∙ two
one_value (Err e) x y h k = cc h

-- the network of a text is that of its document
network_by : (text : List ℕ) (document : file.DeclaredDocument) (network : DeclaredNetwork)
    → document_of text ≡ Ok document → network_of text ≡ Ok network → network_in document ≡ Ok network
network_by text document network tables declared =
    let read = both (tables_of (document_of text)) network_in network declared in
    let same : read.first ≡ document =
    one_value (tables_of (document_of text)) read.first document read.is
    (tables_ok (document_of text) document tables) in
    subst (λ (d : file.DeclaredDocument). network_in d ≡ Ok network) same read.then

pub network_over : (text : List ℕ) (document : file.DeclaredDocument) (network : DeclaredNetwork)
    → document_of text ≡ Ok document → network_of text ≡ Ok network → IsOver document network
network_over text document network tables declared =
    document_over document network (network_by text document network tables declared)

pub each_entry_stands : EachEntryStands
each_entry_stands text document network tables declared =
    document_stands document network (network_by text document network tables declared)
