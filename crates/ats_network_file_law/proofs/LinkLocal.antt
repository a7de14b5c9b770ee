-- Tables for each port declare what a table for each port would.
use Rattle.std.proofs.Common.{◌≡◌, ◌∙◌, ◌≢◌, ℕ, zero, suc, ◌<◌, Bool, true, false, List, [], ◌∷◌, length, map, Option}
use Rattle.std.proofs.Common.{Some, None, Result, Ok, Err, refl, sym, ap, arith}
use Rattle.std.specs.Prelude.{AllPairs}
use Rattle.std.proofs.lemmas.List.{append-nil}
use Rattle.std.proofs.lemmas.List.Elements.{All-get_or}
use Rattle.std.proofs.lemmas.Option.{none-some, same_Some}
use Rattle.ats_num.specs.Failure.{◌>>=◌, ok_where, or_fault, unless}
use Rattle.ats_topology.specs.Faults.{topology_fault}
use Rattle.ats_topology.specs.Port.{no_port, port_at}
use Rattle.ats_topology.specs.Topology.{DeclaredTopology, IsPort, topology_of}
use Rattle.ats_topology.specs.declared.link.Link.{Link}
use Rattle.ats_topology.specs.declared.node.Node.{Node}
use Rattle.ats_topology.specs.declared.port.Port.{Port}
use Rattle.ats_topology.proofs.Rules.{ports_are_lawful, topology_rules}
use Rattle.ats_topology.specs.declared.fault.TopologyFault.{TopologyFault}
use Rattle.ats_streams.specs.Branches.{routes_of}
use Rattle.ats_streams.specs.Flow.{flow_fault_within}
use Rattle.ats_streams.specs.declared.fault.StreamFault.{StreamFault}
use Rattle.ats_network.specs.Network.{DeclaredNetwork, network_within}
use Rattle.ats_network.specs.Pushes.{flow_push_fault, stream_push_fault, with_flow, with_stream}
use Rattle.ats_route_tree.specs.Legs.{DeclaredLegs}
use Rattle.ats_network_table.specs.declared.fault.DocumentFault.{DocumentFault}
use Rattle.ats_network_table.specs.declared.format.Format.{Format}
use Rattle.ats_network_toml.specs.Document as file
use Rattle.ats_network_toml.specs.Reading.{document_of}
use Rattle.ats_network_file.specs.LinkLocal.{flows_at, streams_at}
use Rattle.ats_network_file.specs.Reading.{links_of, most_ports_of, network_in, nodes_of, tables_of}
use Rattle.ats_network_file.specs.Routes.{is_valid, legs_of, may_declare, ports_of}
use Rattle.ats_network_file.specs.Senders.{all_added, flow_added, flow_over, flows_in, refusal_of, stream_added}
use Rattle.ats_network_file.specs.Senders.{stream_fault_over, stream_over, streams_in}
use Rattle.ats_network_file.specs.declared.senders.Place.{Place}
use Rattle.ats_network_file.specs.declared.senders.SenderTable.TheVariants.{Flow, LinkLocal, LinkLocalFlow, Stream}
use Rattle.ats_network_file.specs.declared.fault.NetFault.{NetFault}
use Rattle.ats_network_file.specs.declared.fault.NetFault.TheVariants as net
use Rattle.ats_network_file_law.specs.Entries.{declared_flows, declared_streams}
use Rattle.ats_network_file_law.specs.LinkLocal.{GoesAlong, TablesAreForEachPort, spread_out, spread_over}
use Rattle.ats_network_file_law.proofs.Entries.{both_flat}
use Rattle.ats_network_file_law.proofs.WrittenPaths.{path_back}

-- what a step makes, with no word of the fault where it makes nothing
abbrev made : {A F : Type 0} → Result A F → Option A
made (Ok x) = Some x
made (Err f) = None

made_ok : {A F : Type 0} (r s : Result A F) (x : A) → made r ≡ made s → r ≡ Ok x → s ≡ Ok x
made_ok r (Ok y) x same h = ap Ok (same_Some y x (sym same ∙ ap made h))
made_ok r (Err f) x same h = absurd (none-some x (same_none ∙ ap made h))
  where
    same_none : None ≡ made r
    same_none = sym same

-- two steps that make the same, one after another
made_on : {A B F : Type 0} (r s : Result A F) (k l : A → Result B F) → made r ≡ made s
    → ((x : A) → made (k x) ≡ made (l x)) → made (r >>= k) ≡ made (s >>= l)
made_on (Err e) (Err f) k l same next = refl
made_on (Err e) (Ok y) k l same next = absurd (none-some y same)
made_on (Ok x) (Err f) k l same next = absurd (none-some x (sym same))
made_on {A} {B} {F} (Ok x) (Ok y) k l same next =
    next x ∙ ap (λ (z : A). made (l z)) (same_Some x y same)

-- a test that passes, and a fault that does not stand, whatever its words
passed : {A F : Type 0} (test : Bool) (e f : F) (x : A) → made (ok_where test e x) ≡ made (ok_where test f x)
passed true e f x = refl
passed false e f x = refl

no_fault : {A F G : Type 0} (v w : F → G) (o : Option F) (x : A) → made (unless v o x) ≡ made (unless w o x)
no_fault v w None x = refl
no_fault v w (Some f) x = refl

-- a stream and a flow are added wherever their entries stand
stream_anywhere : (format : Format) (s : DeclaredNetwork) (p q : Place) (e : file.DeclaredStream)
    → made (stream_added format s p e) ≡ made (stream_added format s q e)
stream_anywhere format s p q e =
    made_on (legs_read p (legs_of s.topology e.routes)) (legs_read q (legs_of s.topology e.routes)) _ _
    (read (legs_of s.topology e.routes))
    (λ legs. made_on (unless (net.Sender p.table p.number) (broken legs) (stream_over legs e))
    (unless (net.Sender q.table q.number) (broken legs) (stream_over legs e)) _ _
    (no_fault (net.Sender p.table p.number) (net.Sender q.table q.number) (broken legs) (stream_over legs e))
    (λ x. no_fault (refusal_of p) (refusal_of q) (stream_push_fault s x) (with_stream s x)))
  where
    broken : DeclaredLegs → Option StreamFault
    broken legs = stream_fault_over s.topology s.most_ports e.classes (stream_over legs e)

    may : DeclaredLegs → Bool
    may legs = may_declare format s.topology (routes_of legs.ports legs.branches)

    legs_read : Place → Option DeclaredLegs → Result DeclaredLegs NetFault
    legs_read place o = or_fault (net.BadPath place.table place.number) o
        >>= λ l. ok_where (may l) (net.BadPath place.table place.number) l

    read : (o : Option DeclaredLegs) → made (legs_read p o) ≡ made (legs_read q o)
    read None = refl
    read (Some legs) = passed (may legs) (net.BadPath p.table p.number) (net.BadPath q.table q.number) legs

flow_anywhere : (format : Format) (s : DeclaredNetwork) (p q : Place) (e : file.DeclaredFlow)
    → made (flow_added format s p e) ≡ made (flow_added format s q e)
flow_anywhere format s p q e =
    made_on (path_read p (ports_of s.topology e.route)) (path_read q (ports_of s.topology e.route)) _ _
    (read (ports_of s.topology e.route))
    (λ path. made_on (unless (net.Sender p.table p.number) (broken path) (flow_over path e))
    (unless (net.Sender q.table q.number) (broken path) (flow_over path e)) _ _
    (no_fault (net.Sender p.table p.number) (net.Sender q.table q.number) (broken path) (flow_over path e))
    (λ x. no_fault (refusal_of p) (refusal_of q) (flow_push_fault s x) (with_flow s x)))
  where
    broken : List ℕ → Option StreamFault
    broken path = flow_fault_within s.most_ports (flow_over path e)

    path_read : Place → Option (List ℕ) → Result (List ℕ) NetFault
    path_read place o = or_fault (net.BadPath place.table place.number) o
        >>= λ path. ok_where (is_valid s.topology path) (net.BadPath place.table place.number) path
        >>= λ v. ok_where (may_declare format s.topology (v ∷ [])) (net.BadPath place.table place.number) v

    read : (o : Option (List ℕ)) → made (path_read p o) ≡ made (path_read q o)
    read None = refl
    read (Some path) =
        made_on (ok_where (is_valid s.topology path) (net.BadPath p.table p.number) path)
        (ok_where (is_valid s.topology path) (net.BadPath q.table q.number) path) _ _
        (passed (is_valid s.topology path) (net.BadPath p.table p.number) (net.BadPath q.table q.number) path)
        (λ v. passed (may_declare format s.topology (v ∷ [])) (net.BadPath p.table p.number)
        (net.BadPath q.table q.number) v)

-- so are lists of the same senders, whatever their places
all_anywhere : {E : Type 0} (added : DeclaredNetwork → Place → E → Result DeclaredNetwork NetFault)
    → ((s : DeclaredNetwork) (p q : Place) (e : E) → made (added s p e) ≡ made (added s q e))
    → (s : DeclaredNetwork) (xs ys : List (Place × E)) → map (λ x. x.1) xs ≡ map (λ x. x.1) ys
    → made (all_added added s xs) ≡ made (all_added added s ys)
all_anywhere added anywhere s [] [] same = refl
all_anywhere added anywhere s [] (y ∷ ys) same = cc same
all_anywhere added anywhere s (x ∷ xs) [] same = cc same
all_anywhere {E} added anywhere s (x ∷ xs) (y ∷ ys) same =
    let one : x.1 ≡ y.1 = cc same in
    let rest : map (λ z. z.1) xs ≡ map (λ z. z.1) ys = cc same in
    made_on (added s x.0 x.1) (added s y.0 y.1) (λ next. all_added added next xs) (λ next. all_added added next ys)
    (anywhere s x.0 y.0 x.1 ∙ ap (λ (e : E). made (added s y.0 e)) one)
    (λ next. all_anywhere added anywhere next xs ys rest)

-- what a document's senders make of a topology
abbrev onward : file.DeclaredDocument → DeclaredTopology → Result DeclaredNetwork NetFault
onward d topology =
    all_added (stream_added d.format) (network_within topology (most_ports_of d.format) [] []) (streams_in topology d)
    >>= λ s. all_added (flow_added d.format) s (flows_in topology d)

onward_same : (d : file.DeclaredDocument) (topology : DeclaredTopology)
    → made (onward d topology) ≡ made (onward (spread_over topology d) topology)
onward_same d topology =
    made_on (all_added (stream_added d.format) bare (streams_in topology d))
    (all_added (stream_added d.format) bare (streams_in topology (spread_over topology d))) _ _
    (all_anywhere (stream_added d.format) (stream_anywhere d.format) bare (streams_in topology d)
    (streams_in topology (spread_over topology d))
    (both_flat (streams_at topology) Stream LinkLocal d.streams d.link_locals
    ∙ sym (append-nil (declared_streams topology d))
    ∙ sym (both_flat (streams_at topology) Stream LinkLocal (declared_streams topology d) [])))
    (λ s. all_anywhere (flow_added d.format) (flow_anywhere d.format) s (flows_in topology d)
    (flows_in topology (spread_over topology d))
    (both_flat (flows_at topology) Flow LinkLocalFlow d.flows d.link_local_flows
    ∙ sym (append-nil (declared_flows topology d))
    ∙ sym (both_flat (flows_at topology) Flow LinkLocalFlow (declared_flows topology d) [])))
  where
    bare : DeclaredNetwork
    bare = network_within topology (most_ports_of d.format) [] []

network_same : (d : file.DeclaredDocument) → made (network_in d) ≡ made (network_in (spread_out d))
network_same d = by (topology_fault (nodes_of d) (links_of d))
  where
    topology : DeclaredTopology
    topology = topology_of (nodes_of d) (links_of d)

    by : (o : Option TopologyFault) → made (unless net.Topology o topology >>= onward d)
        ≡ made (unless net.Topology o topology >>= onward (spread_out d))
    by (Some fault) = refl
    by None = onward_same d topology

tables_ok : (r : Result file.DeclaredDocument DocumentFault) (d : file.DeclaredDocument) → r ≡ Ok d
    → tables_of r ≡ Ok d
tables_ok (Ok x) d h = ap Ok (cc h)
tables_ok (Err e) d h = cc h

-- a text declares what its document does
text_network : (text : List ℕ) (d : file.DeclaredDocument) → document_of text ≡ Ok d
    → (tables_of (document_of text) >>= network_in) ≡ network_in d
text_network text d h =
    ap (λ (r : Result file.DeclaredDocument NetFault). r >>= network_in) (tables_ok (document_of text) d h)

-- two that differ are all apart
two_apart : (a b : ℕ) → a ≢ b → AllPairs (λ x y. x ≢ y) (a ∷ b ∷ [])
two_apart a b differ i zero d order within = absurd (omega (arith, order))
two_apart a b differ zero (suc zero) d order within = differ
two_apart a b differ (suc i) (suc zero) d order within = absurd (omega (arith, order))
two_apart a b differ i (suc (suc j)) d order within = absurd (omega (arith, within))

-- a port is a path by itself, and found by the names of the nodes that it joins
pub along_port : (nodes : List Node) (links : List Link) (port : ℕ) → topology_fault nodes links ≡ None
    → port < length (topology_of nodes links).ports → GoesAlong nodes links port
along_port nodes links port none within = path_back nodes links (port ∷ []) none (record {
  talker = p.from;
  listener = p.to;
  some = omega arith;
  walk = (record { within = within; from = refl }, refl);
  apart = two_apart p.from p.to is_port.differ;
})
  where
    topology : DeclaredTopology
    topology = topology_of nodes links

    p : Port
    p = port_at topology.ports port

    is_port : IsPort (length nodes) p
    is_port = All-get_or (IsPort (length nodes)) topology.ports port no_port within
        (ports_are_lawful topology (topology_rules nodes links none)).each

pub tables_are_for_each_port : TablesAreForEachPort
tables_are_for_each_port = record {
  document = λ d network. (
    made_ok (network_in d) (network_in (spread_out d)) network (network_same d),
    made_ok (network_in (spread_out d)) (network_in d) network (sym (network_same d)),
  );
  text = λ text by d network is is_by. (
    λ h. text_network by (spread_out d) is_by
        ∙ made_ok (network_in d) (network_in (spread_out d)) network (network_same d)
        (sym (text_network text d is) ∙ h),
    λ h. text_network text d is
        ∙ made_ok (network_in (spread_out d)) (network_in d) network (sym (network_same d))
        (sym (text_network by (spread_out d) is_by) ∙ h),
  );
  along = along_port;
}
