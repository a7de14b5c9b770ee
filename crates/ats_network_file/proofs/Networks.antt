use Rattle.std.proofs.Common.{◌≡◌, ℕ, ◌<◌, true, false, List, [], ◌∷◌, length, None}
use Rattle.std.proofs.Common.{Result, Ok, Err, refl, sym, ap, subst, ◌∙◌, arith, inl, inr}
use Rattle.std.specs.Prelude.{nat_le}
use Rattle.std.proofs.lemmas.List.{nil_from_length}
use Rattle.std.specs.List.{All, enumerate_from}
use Rattle.std.proofs.lemmas.Bool.Decides.{nat_tests}
use Rattle.std.proofs.lemmas.List.Elements.{All-nil, All-append, All-cons, All-head, All-push}
use Rattle.std.proofs.lemmas.List.Elements.{All-tail}
use Rattle.ats_num.specs.Places.{place_of}
use Rattle.ats_topology.specs.Faults.{topology_fault}
use Rattle.ats_topology.specs.Topology.{DeclaredTopology, IsTopology, topology_of}
use Rattle.ats_topology.proofs.Rules.{topology_rules}
use Rattle.ats_streams.proofs.BranchLemmas.{routes-length}
use Rattle.ats_streams.specs.Branches.{routes_of}
use Rattle.ats_streams.specs.Stream.{DeclaredStream, IsStream, MayIdentify, stream_fault_within}
use Rattle.ats_streams.specs.Flow.{DeclaredFlow, IsFlow, flow_fault_within}
use Rattle.ats_network.specs.Sender.{Sender}
use Rattle.ats_network.specs.Path.{IsTree, IsValidPath}
use Rattle.ats_network.specs.Network.{DeclaredNetwork, HasOneListener, HasShortPath, HasShortRoutes, IsMostPorts}
use Rattle.ats_network.specs.Network.{IsNetwork, names_of, network_within, senders_of}
use Rattle.ats_network.specs.Pushes.{with_stream, with_flow, is_beyond, is_name_taken, is_identity_taken}
use Rattle.ats_network.specs.Rates.{HasRates}
use Rattle.ats_network.specs.Pushes.{stream_push_fault, flow_push_fault}
use Rattle.ats_network.specs.declared.network.TheConstants.{MAX_FLOWS}
use Rattle.ats_network.proofs.Pushed.{pushed_stream, pushed_flow}
use Rattle.ats_route_tree.specs.Legs.{DeclaredLegs}
use Rattle.ats_route_tree.proofs.Found.{have_valid}
use Rattle.ats_facts.proofs.Options.{is_some-false, option_or-none}
use Rattle.ats_network_table.specs.Walk.{IsIdentity}
use Rattle.ats_network_table.specs.declared.format.Format.{Format}
use Rattle.ats_network_table.specs.declared.fault.DocumentFault.{DocumentFault}
use Rattle.ats_network_table.specs.declared.format.Format.TheVariants.{One, Two, Three}
use Rattle.ats_network_toml.specs.Document as file
use Rattle.ats_network_toml.specs.Reading.{document_of, format_in}
use Rattle.ats_num.specs.Failure.{◌>>=◌, or_fault, ok_where, unless}
use Rattle.ats_network_file.specs.Reading.{tables_of, nodes_of, links_of, topology_in, network_in, network_of}
use Rattle.ats_network_file.specs.Laws.{EachJoinsStations, MostPortsAreOfFormat}
use Rattle.ats_network_file.specs.Reading.{IsBeforeFormat3, most_ports_of}
use Rattle.ats_network_file.specs.Senders.{legs_in, path_in, stream_over, flow_over, stream_made, flow_made, refusal_of}
use Rattle.ats_network_file.specs.LinkLocal.{stream_at, streams_at}
use Rattle.ats_network_file.specs.Senders.{stream_added, flow_added, all_added, alone, flows_in, placed, streams_in}
use Rattle.ats_network_file.specs.Senders.{rate_fault, stream_fault_over}
use Rattle.ats_network_file.specs.declared.senders.SenderTable.TheVariants.{Stream, LinkLocal}
use Rattle.ats_network_file.specs.Routes.{is_valid, may_declare, ports_of}
use Rattle.ats_network_file.specs.Stations.{JoinStations, JoinsStations}
use Rattle.ats_network_file.specs.declared.senders.Place.{Place}
use Rattle.ats_network_file.specs.declared.fault.NetFault.{NetFault}
use Rattle.ats_network_file.specs.declared.fault.NetFault.TheVariants as net
use Rattle.ats_network_file.proofs.Steps.{both, Given, ok_where_ok, Sound, unless_ok}
use Rattle.ats_network_file.proofs.Documents.{IsDocumentOf, IsKept, document_kept}
use Rattle.ats_network_file.proofs.Joined.{declared_join}
use Rattle.ats_network_file.proofs.SenderLemmas.{flow_faultless, flow_keeps, flow_short, passed, stream_faultless}
use Rattle.ats_network_file.proofs.SenderLemmas.{stream_keeps, stream_short}
use Rattle.ats_network_file.proofs.Placed.{alone_all, made_all, placed_all}
use Rattle.ats_network_file.proofs.Trees.{IsDeclared, IsRouted, each_length, legs_declared, legs_kept}
use Rattle.ats_network_file.proofs.ValidPaths.{valid_passed}

-- What a text declares is a network. In format 1 and 2 each of its streams has one listener, and its routes lead from
-- stations to stations.

-- a network of a document, whose format is before format 3 where this holds, and whose routes may have so many ports
record IsAlone (before : Type 0) (limit : ℕ) (network : DeclaredNetwork) : Type 0 where
  is : IsNetwork network
  alone : before → HasOneListener network
  stations : before → JoinStations network
  most : network.most_ports ≡ limit

room : (most n : ℕ) → nat_le most n ≡ false → n < most
room most n h = grind (arith, nat_tests)

-- the routes of a stream, or the path of a flow, lead from stations to stations
abbrev StreamJoins : DeclaredTopology → DeclaredStream → Type 0
StreamJoins topology s = All (JoinsStations topology) (routes_of s.ports s.branches)

abbrev FlowJoins : DeclaredTopology → DeclaredFlow → Type 0
FlowJoins topology f = JoinsStations topology f.path

-- the path of a flow's entry is valid, and a file of the format may declare it
record IsPathIn (f : Format) (t : DeclaredTopology) (path : List ℕ) : Type 0 where
  valid : IsValidPath t path
  may : may_declare f t (path ∷ []) ≡ true

path_kept : (f : Format) (t : DeclaredTopology) (n : Place) (route : file.DeclaredRoute) (path : List ℕ)
    → path_in f t n route ≡ Ok path → IsPathIn f t path
path_kept f t n route path h =
    let found = both (or_fault (net.BadPath n.table n.number) (ports_of t route))
    (λ p. ok_where (is_valid t p) (net.BadPath n.table n.number) p
    >>= λ v. ok_where (may_declare f t (v ∷ [])) (net.BadPath n.table n.number) v) path h in
    let valid = both (ok_where (is_valid t found.first) (net.BadPath n.table n.number) found.first)
    (λ v. ok_where (may_declare f t (v ∷ [])) (net.BadPath n.table n.number) v) path found.then in
    let given : Given (is_valid t found.first) found.first valid.first =
    ok_where_ok (is_valid t found.first) (net.BadPath n.table n.number) found.first valid.first valid.is in
    let may : Given (may_declare f t (valid.first ∷ [])) valid.first path =
    ok_where_ok (may_declare f t (valid.first ∷ [])) (net.BadPath n.table n.number) valid.first path valid.then in
    record {
      valid = subst (λ (p : List ℕ). IsValidPath t p) (given.same ∙ may.same)
          (valid_passed t found.first given.passed);
      may = ap (λ (p : List ℕ). may_declare f t (p ∷ [])) (sym may.same) ∙ may.passed;
    }

-- a name that is free
name_free : (network : DeclaredNetwork) (name : List ℕ) → is_name_taken network name ≡ false
    → place_of name (names_of (senders_of network)) ≡ None
name_free network name h = is_some-false (place_of name (names_of (senders_of network))) h

-- with one route, the legs have no branch
one_leg : (topology : DeclaredTopology) (routes : List file.DeclaredRoute) (legs : DeclaredLegs)
    → IsRouted topology routes legs → length routes ≡ 1 → legs.branches ≡ []
one_leg topology routes legs routed one =
    nil_from_length legs.branches (omega (
      arith,
      one,
      each_length topology routes routed.paths routed.are,
      routes-length legs.ports legs.branches,
      ap (λ (rs : List (List ℕ)). length rs) routed.have.routes_are,
    ))

stream_push_kept : (before : Type 0) (most : ℕ) (network : DeclaredNetwork) (stream : DeclaredStream)
    (next : DeclaredNetwork) → IsAlone before most network → IsStream stream → (before → stream.branches ≡ [])
    → (before → All (JoinsStations network.topology) (routes_of stream.ports stream.branches))
    → IsTree network.topology stream.ports stream.branches → HasShortRoutes network.most_ports stream
    → Sound (stream_push_fault network stream) (with_stream network stream) next
    → IsAlone before most next
stream_push_kept before most network stream next is keeps alone joins tree short sound =
    let a = passed (is_name_taken network stream.name) _ _ sound.none in
    let b = passed (is_identity_taken network.streams stream.identity) _ _ a.none in
    let c = passed (is_beyond network stream) _ _ b.none in
    let made : IsAlone before most (with_stream network stream) = record {
      is = pushed_stream network stream is.is keeps tree short (name_free network stream.name a.test) b.test c.test;
      alone = λ b. All-push (λ (s : DeclaredStream). s.branches ≡ []) network.streams stream (is.alone b) (alone b);
      stations = λ b. record {
        streams = All-push (StreamJoins network.topology) network.streams stream (is.stations b).streams (joins b);
        flows = (is.stations b).flows;
      };
      most = is.most;
    } in
    subst (IsAlone before most) sound.same made

stream_add_kept : (before : Type 0) (most : ℕ) (f : Format) (network : DeclaredNetwork) (n : Place)
    (e : file.DeclaredStream) (next : DeclaredNetwork) → (before → f ≡ Three → ⊥) → IsKept before e
    → IsAlone before most network → stream_added f network n e ≡ Ok next → IsAlone before most next
stream_add_kept before most f network n e next other entry is h =
    let routed = both (legs_in f network.topology n e.routes)
    (λ legs. stream_made network.topology network.most_ports n e (stream_over legs e)
    >>= λ s. unless (refusal_of n) (stream_push_fault network s) (with_stream network s)) next h in
    let stream : DeclaredStream = stream_over routed.first e in
    let made = both (stream_made network.topology network.most_ports n e stream)
    (λ s. unless (refusal_of n) (stream_push_fault network s) (with_stream network s)) next routed.then in
    let sound : Sound (stream_fault_over network.topology network.most_ports e.classes stream) stream made.first =
    unless_ok (net.Sender n.table n.number) (stream_fault_over network.topology network.most_ports e.classes stream)
    stream made.first made.is in
    let ruled : stream_fault_within network.most_ports e.classes stream ≡ None =
    (option_or-none (stream_fault_within network.most_ports e.classes stream) (rate_fault network.topology stream)
    sound.none).0 in
    let added : (s : DeclaredStream) → s ≡ made.first
    → Sound (stream_push_fault network s) (with_stream network s) next =
    λ s same. unless_ok (refusal_of n) (stream_push_fault network s) (with_stream network s) next
    (subst (λ s. unless (refusal_of n) (stream_push_fault network s) (with_stream network s) ≡ Ok next)
    (sym same) made.then) in
    let may : MayIdentify e.identity = λ pair given. let one : IsIdentity pair = entry.identified pair given in
    record { within = one.address; least = one.vlan_least; most = one.vlan_most } in
    let found : IsRouted network.topology e.routes routed.first =
    legs_kept f network.topology n e.routes routed.first routed.is in
    let valid : All (IsValidPath network.topology) (routes_of routed.first.ports routed.first.branches) =
    subst (All (IsValidPath network.topology)) (sym found.have.routes_are)
    (have_valid network.topology found.paths routed.first found.have) in
    let declared : IsDeclared f network.topology n e.routes routed.first =
    legs_declared f network.topology n e.routes routed.first routed.is in
    stream_push_kept before most network stream next is
    (stream_keeps e.classes stream refl found.have.are may
    (stream_faultless network.most_ports e.classes stream ruled))
    (λ b. one_leg network.topology e.routes routed.first found (entry.single b))
    (λ b. declared_join f network.topology (routes_of routed.first.ports routed.first.branches) (other b)
    is.is.topology valid declared.may) found.have.tree
    (stream_short network.most_ports e.classes stream ruled) (added stream sound.same)

flow_push_kept : (before : Type 0) (most : ℕ) (network : DeclaredNetwork) (flow : DeclaredFlow)
    (next : DeclaredNetwork) → IsAlone before most network → IsFlow flow → IsValidPath network.topology flow.path
    → (before → JoinsStations network.topology flow.path) → HasShortPath network.most_ports flow
    → Sound (flow_push_fault network flow) (with_flow network flow) next
    → IsAlone before most next
flow_push_kept before most network flow next is keeps valid joins short sound =
    let a = passed (is_name_taken network flow.name) _ _ sound.none in
    let b = passed (nat_le MAX_FLOWS (length network.flows)) _ _ a.none in
    let made : IsAlone before most (with_flow network flow) = record {
      is = pushed_flow network flow is.is keeps valid short (name_free network flow.name a.test)
          (room MAX_FLOWS (length network.flows) b.test);
      alone = is.alone;
      stations = λ b. record {
        streams = (is.stations b).streams;
        flows = All-push (FlowJoins network.topology) network.flows flow (is.stations b).flows (joins b);
      };
      most = is.most;
    } in
    subst (IsAlone before most) sound.same made

flow_add_kept : (before : Type 0) (most : ℕ) (format : Format) (network : DeclaredNetwork) (n : Place)
    (e : file.DeclaredFlow) (next : DeclaredNetwork) → (before → format ≡ Three → ⊥) → IsAlone before most network
    → flow_added format network n e ≡ Ok next → IsAlone before most next
flow_add_kept before most format network n e next other is h =
    let routed = both (path_in format network.topology n e.route)
    (λ path. flow_made network.most_ports n (flow_over path e)
    >>= λ f. unless (refusal_of n) (flow_push_fault network f) (with_flow network f)) next h in
    let flow : DeclaredFlow = flow_over routed.first e in
    let made = both (flow_made network.most_ports n flow)
    (λ f. unless (refusal_of n) (flow_push_fault network f) (with_flow network f)) next routed.then in
    let sound : Sound (flow_fault_within network.most_ports flow) flow made.first =
    unless_ok (net.Sender n.table n.number) (flow_fault_within network.most_ports flow) flow made.first made.is in
    let added : (f : DeclaredFlow) → f ≡ made.first → Sound (flow_push_fault network f) (with_flow network f) next =
    λ f same. unless_ok (refusal_of n) (flow_push_fault network f) (with_flow network f) next
    (subst (λ f. unless (refusal_of n) (flow_push_fault network f) (with_flow network f) ≡ Ok next)
    (sym same) made.then) in
    let kept : IsPathIn format network.topology routed.first =
    path_kept format network.topology n e.route routed.first routed.is in
    flow_push_kept before most network flow next is
    (flow_keeps flow (flow_faultless network.most_ports flow sound.none)) kept.valid
    (λ b. All-head (JoinsStations network.topology) routed.first [] (declared_join format network.topology
    (routed.first ∷ []) (other b) is.is.topology
    (All-cons (IsValidPath network.topology) routed.first [] kept.valid (All-nil (IsValidPath network.topology)))
    kept.may))
    (flow_short network.most_ports flow sound.none) (added flow sound.same)

-- senders that are added one after another keep this, where each does
all_kept : {E : Type 0} (before : Type 0) (most : ℕ) (P : E → Type 0)
    (added : DeclaredNetwork → Place → E → Result DeclaredNetwork NetFault)
    → ((network : DeclaredNetwork) (n : Place) (e : E) (next : DeclaredNetwork) → P e
    → IsAlone before most network → added network n e ≡ Ok next → IsAlone before most next)
    → (network : DeclaredNetwork) (entries : List (Place × E)) (next : DeclaredNetwork) → All (λ x. P x.1) entries
    → IsAlone before most network → all_added added network entries ≡ Ok next → IsAlone before most next
all_kept before most P added keeps network [] next each is h =
    let same : network ≡ next = cc in
    subst (IsAlone before most) same is
all_kept before most P added keeps network (e ∷ entries) next each is h =
    let one = both (added network e.0 e.1) (λ mid. all_added added mid entries) next h in
    all_kept before most P added keeps one.first entries next (All-tail (λ x. P x.1) e entries each)
    (keeps network e.0 e.1 one.first (All-head (λ x. P x.1) e entries each) is one.is) one.then

-- a topology without streams and flows is a network
bare : (topology : DeclaredTopology) (most : ℕ) → IsTopology topology → IsMostPorts most
    → IsNetwork (network_within topology most [] [])
bare topology most is of = record {
  topology = is;
  streams = All-nil IsStream;
  flows = All-nil IsFlow;
  trees = All-nil (λ (s : Sender). IsTree topology s.ports s.branches);
  names = λ n h. absurd (omega arith);
  identities = λ i j d order h. absurd (omega arith);
  few_streams = omega arith;
  few_flows = omega arith;
  few_ports = omega arith;
  most_ports = of;
  short_streams = All-nil (HasShortRoutes most);
  short_flows = All-nil (HasShortPath most);
  rates = All-nil (HasRates topology);
}

-- a format gives one of the two numbers
is_most : (format : Format) → IsMostPorts (most_ports_of format)
is_most One = inl refl
is_most Two = inl refl
is_most Three = inr refl

bare_alone : (before : Type 0) (topology : DeclaredTopology) (format : Format) → IsTopology topology
    → IsAlone before (most_ports_of format) (network_within topology (most_ports_of format) [] [])
bare_alone before topology format is = record {
  is = bare topology (most_ports_of format) is (is_most format);
  alone = λ b. All-nil (λ (s : DeclaredStream). s.branches ≡ []);
  stations = λ b. record { streams = All-nil (StreamJoins topology); flows = All-nil (FlowJoins topology) };
  most = refl;
}

topology_kept : (d : file.DeclaredDocument) (topology : DeclaredTopology) → topology_in d ≡ Ok topology
    → IsTopology topology
topology_kept d topology h =
    let sound : Sound (topology_fault (nodes_of d) (links_of d)) (topology_of (nodes_of d) (links_of d)) topology =
    unless_ok net.Topology (topology_fault (nodes_of d) (links_of d))
    (topology_of (nodes_of d) (links_of d)) topology h in
    subst IsTopology sound.same (topology_rules (nodes_of d) (links_of d) sound.none)

any_of : {E : Type 0} (entries : List (Place × E)) → All (λ x. Unit {0}) entries
any_of [] = All-nil (λ x. Unit {0})
any_of (e ∷ entries) = All-cons (λ x. Unit {0}) e entries tt (any_of entries)

-- what a document's streams keep, those at ports keep too: they have one route, and no identity
streams_keep : (before : Type 0) (t : DeclaredTopology) (d : file.DeclaredDocument) → All (IsKept before) d.streams
    → All (λ x. IsKept before x.1) (streams_in t d)
streams_keep before t d kept =
    All-append (λ x. IsKept before x.1) (placed alone Stream 1 d.streams)
    (placed (streams_at t) LinkLocal 1 d.link_locals) (alone_all (IsKept before) Stream 1 d.streams kept)
    (placed_all (IsKept before) (streams_at t) (λ e. made_all (IsKept before) (stream_at t e)
    (λ port. record { identified = λ pair is. cc is; single = λ b. refl }) (enumerate_from 0 t.ports)) LinkLocal 1
    d.link_locals)

document_network : (before : Type 0) (d : file.DeclaredDocument) (network : DeclaredNetwork)
    → All (IsKept before) d.streams → (before → d.format ≡ Three → ⊥) → network_in d ≡ Ok network
    → IsAlone before (most_ports_of d.format) network
document_network before d network kept other h =
    let most : ℕ = most_ports_of d.format in
    let based = both (topology_in d)
    (λ t. all_added (stream_added d.format) (network_within t most [] []) (streams_in t d)
    >>= λ s. all_added (flow_added d.format) s (flows_in t d)) network h in
    let t : DeclaredTopology = based.first in
    let streamed = both (all_added (stream_added d.format) (network_within t most [] []) (streams_in t d))
    (λ s. all_added (flow_added d.format) s (flows_in t d)) network based.then in
    let with : IsAlone before most streamed.first =
    all_kept before most (IsKept before) (stream_added d.format)
    (λ network n e next entry is added. stream_add_kept before most d.format network n e next other entry is added)
    (network_within t most [] []) (streams_in t d) streamed.first (streams_keep before t d kept)
    (bare_alone before t d.format (topology_kept d t based.is)) streamed.is in
    all_kept before most (λ (e : file.DeclaredFlow). Unit {0}) (flow_added d.format)
    (λ network n e next any is added. flow_add_kept before most d.format network n e next other is added)
    streamed.first (flows_in t d) network (any_of (flows_in t d)) with streamed.then

tables_ok : (r : Result file.DeclaredDocument DocumentFault) (d : file.DeclaredDocument) → tables_of r ≡ Ok d → r ≡ Ok d
tables_ok (Ok x) d h = cc
tables_ok (Err e) d h = cc

-- a text gives a format, and declares a network of this format
record IsOfFormat (text : List ℕ) (network : DeclaredNetwork) : Type 0 where
  format : Format
  given : format_in text ≡ Ok format
  alone : IsAlone (IsBeforeFormat3 text) (most_ports_of format) network

declared_alone : (text : List ℕ) (network : DeclaredNetwork) → network_of text ≡ Ok network → IsOfFormat text network
declared_alone text network h =
    let read = both (tables_of (document_of text)) network_in network h in
    let kept : IsDocumentOf text read.first =
    document_kept text read.first (tables_ok (document_of text) read.first read.is) in
    record {
      format = read.first.format;
      given = kept.format;
      alone = document_network (IsBeforeFormat3 text) read.first network kept.streams
          (λ before three. before (kept.format ∙ ap Ok three)) read.then;
    }

-- what a text declares is a network
pub declared_is_network : (text : List ℕ) (network : DeclaredNetwork) → network_of text ≡ Ok network → IsNetwork network
declared_is_network text network h = (declared_alone text network h).alone.is

-- what a text of format 1 or 2 declares has one listener for each stream
pub declared_has_one_listener : (text : List ℕ) (network : DeclaredNetwork) → IsBeforeFormat3 text
    → network_of text ≡ Ok network → HasOneListener network
declared_has_one_listener text network before h = (declared_alone text network h).alone.alone before

-- and its routes lead from stations to stations
pub each_joins_stations : EachJoinsStations
each_joins_stations text network before h = (declared_alone text network h).alone.stations before

-- the most ports of a route are those of the format
short_before : (text : List ℕ) (format : Format) → format_in text ≡ Ok format → IsBeforeFormat3 text
    → most_ports_of format ≡ 16
short_before text One given before = refl
short_before text Two given before = refl
short_before text Three given before = absurd (before given)

long_in : (text : List ℕ) (format : Format) → format_in text ≡ Ok format → format_in text ≡ Ok Three
    → most_ports_of format ≡ 64
long_in text One given three = cc
long_in text Two given three = cc
long_in text Three given three = refl

pub most_ports_are_of_format : MostPortsAreOfFormat
most_ports_are_of_format = record {
  short = λ text network before h. (
      let of = declared_alone text network h in
      of.alone.most ∙ short_before text of.format of.given before);
  long = λ text network three h. (
      let of = declared_alone text network h in
      of.alone.most ∙ long_in text of.format of.given three);
}
