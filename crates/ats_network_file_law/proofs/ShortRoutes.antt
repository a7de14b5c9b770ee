-- A document with short routes declares in format 3 what it does in format 2.
use Rattle.std.proofs.Common.{◌≡◌, ◌∙◌, ℕ, ◌≤◌, Bool, true, false, ◌&&◌, ◌||◌, cond, List, [], ◌∷◌, length, Option}
use Rattle.std.proofs.Common.{Some, None, Result, Ok, Err, refl, sym, ap, subst, arith}
use Rattle.std.specs.Prelude.{map, nat_lt}
use Rattle.std.specs.List.{All, AllZip, list_all, list_any}
use Rattle.std.specs.Option.{option_or}
use Rattle.std.proofs.lemmas.Bool.{le-ltb}
use Rattle.std.proofs.lemmas.List.Elements.{All-cons, All-head, All-nil, All-tail, All-weaker}
use Rattle.ats_num.specs.Failure.{◌>>=◌, ok_where, or_fault, unless}
use Rattle.ats_topology.specs.Faults.{topology_fault}
use Rattle.ats_topology.specs.Topology.{DeclaredTopology, topology_of}
use Rattle.ats_topology.specs.declared.fault.TopologyFault.{TopologyFault}
use Rattle.ats_streams.specs.Branches.{AreShort, is_bad_route, routes_of}
use Rattle.ats_streams.specs.Flow.{DeclaredFlow, flow_fault, flow_fault_within}
use Rattle.ats_streams.specs.Path.{IsPath}
use Rattle.ats_streams.specs.Stream.{DeclaredStream, route_fault, stream_fault, stream_fault_within}
use Rattle.ats_streams.specs.declared.fault.StreamFault.{StreamFault}
use Rattle.ats_streams.specs.declared.fault.StreamFault.TheVariants.{Limit}
use Rattle.ats_streams.specs.declared.path.TheConstants.{MAX_PORTS, MAX_SHORT_PORTS}
use Rattle.ats_network.specs.Ends.{joins_stations}
use Rattle.ats_network.specs.Network.{DeclaredNetwork, network_within}
use Rattle.ats_network.specs.Pushes.{flow_push_fault, stream_push_fault, with_flow, with_stream}
use Rattle.ats_network.specs.declared.fault.PushFault.{PushFault}
use Rattle.ats_route_tree.specs.Legs.{DeclaredLegs}
use Rattle.ats_network_table.specs.declared.format.Format.{Format}
use Rattle.ats_network_table.specs.declared.format.Format.TheVariants.{Three, Two}
use Rattle.ats_network_toml.specs.Document as file
use Rattle.ats_network_file.specs.Reading.{links_of, nodes_of}
use Rattle.ats_network_file.specs.Routes.{is_valid, legs_of, may_declare, ports_of}
use Rattle.ats_network_file.specs.LinkLocal.{flows_at, streams_at}
use Rattle.ats_network_file.specs.Senders.{all_added, flow_added, flow_made, flow_over, flows_in, legs_in, path_in}
use Rattle.ats_network_file.specs.Senders.{rate_fault, refusal_of, stream_added, stream_fault_over, stream_made}
use Rattle.ats_network_file.specs.Senders.{stream_over, streams_in}
use Rattle.ats_network_file.specs.declared.senders.Place.{Place}
use Rattle.ats_network_file.specs.declared.senders.SenderTable.TheVariants.{Flow, LinkLocal, LinkLocalFlow, Stream}
use Rattle.ats_network_file.specs.declared.fault.NetFault.{NetFault}
use Rattle.ats_network_file.specs.declared.fault.NetFault.TheVariants as net
use Rattle.ats_network_file.proofs.SenderLemmas.{flow_keeps, routes_keep}
use Rattle.ats_network_file_law.specs.SenderFaults.{HasPorts, IsRouted}
use Rattle.ats_network_file_law.specs.SenderFaults as entry
use Rattle.ats_network_file_law.specs.ShortRoutes.{FlowIsShort, FormatOneIsFormatTwo, HasShortRoute, HasShortSenders}
use Rattle.ats_network_file_law.specs.ShortRoutes.{ShortRoutesAreOfBoth, StreamIsShort, as_long}
use Rattle.ats_network_file_law.proofs.Entries.{both_flat, flow_stands, stream_stands, streams_stand}
use Rattle.ats_network_file_law.proofs.Routed.{alone, flow_reads, stream_reads}

-- a network, as one whose routes may be long
abbrev long : DeclaredNetwork → DeclaredNetwork
long network = record network { most_ports = MAX_PORTS }

abbrev IsShort : ℕ → List ℕ → Type 0
IsShort most route = length route ≤ most

-- the ports of short routes are few
routes_short : (topology : DeclaredTopology) (routes : List file.DeclaredRoute) (paths : List (List ℕ))
    → All (HasShortRoute topology) routes → AllZip (HasPorts topology) routes paths → AreShort MAX_SHORT_PORTS paths
routes_short topology [] [] short zipped = All-nil (IsShort MAX_SHORT_PORTS)
routes_short topology [] (path ∷ paths) short zipped = absurd zipped
routes_short topology (route ∷ routes) [] short zipped = absurd zipped
routes_short topology (route ∷ routes) (path ∷ paths) short zipped =
    All-cons (IsShort MAX_SHORT_PORTS) path paths
    (All-head (HasShortRoute topology) route routes short path zipped.0).few
    (routes_short topology routes paths (All-tail (HasShortRoute topology) route routes short) zipped.1)

-- and they lead from stations to stations
all_join : (topology : DeclaredTopology) (routes : List file.DeclaredRoute) (paths : List (List ℕ))
    → All (HasShortRoute topology) routes → AllZip (HasPorts topology) routes paths
    → list_all (joins_stations topology) paths ≡ true
all_join topology [] [] short zipped = refl
all_join topology [] (path ∷ paths) short zipped = absurd zipped
all_join topology (route ∷ routes) [] short zipped = absurd zipped
all_join topology (route ∷ routes) (path ∷ paths) short zipped =
    ap (λ (b : Bool). b && list_all (joins_stations topology) paths)
    (All-head (HasShortRoute topology) route routes short path zipped.0).stations
    ∙ all_join topology routes paths (All-tail (HasShortRoute topology) route routes short) zipped.1

-- what becomes of the legs of a stream, and of the ports of a flow
abbrev declared_legs : Format → DeclaredTopology → Place → Option DeclaredLegs → Result DeclaredLegs NetFault
declared_legs format topology n o = or_fault (net.BadPath n.table n.number) o
    >>= λ l. ok_where (may_declare format topology (routes_of l.ports l.branches)) (net.BadPath n.table n.number) l

abbrev declared_path : Format → DeclaredTopology → Place → List ℕ → Bool → Result (List ℕ) NetFault
declared_path format topology n path valid = ok_where valid (net.BadPath n.table n.number) path
    >>= λ v. ok_where (may_declare format topology (v ∷ [])) (net.BadPath n.table n.number) v

-- such routes may be declared in format 2 as in format 3
same_legs : (topology : DeclaredTopology) (n : Place) (e : file.DeclaredStream) → All (HasShortRoute topology) e.routes
    → legs_in Two topology n e.routes ≡ legs_in Three topology n e.routes
same_legs topology n e short = by (legs_of topology e.routes) refl
  where
    by : (o : Option DeclaredLegs) → legs_of topology e.routes ≡ o
        → declared_legs Two topology n o ≡ declared_legs Three topology n o
    by None h = refl
    by (Some legs) h =
        let routed : IsRouted Three topology (entry.stream n e) legs =
        (stream_reads Three topology e n).some legs (ap (declared_legs Three topology n) h) in
        ap (λ (b : Bool). ok_where b (net.BadPath n.table n.number) legs)
        (ap (may_declare Two topology) routed.have.routes_are
        ∙ all_join topology e.routes routed.routes short routed.ports)

same_path : (topology : DeclaredTopology) (n : Place) (route : file.DeclaredRoute) → HasShortRoute topology route
    → path_in Two topology n route ≡ path_in Three topology n route
same_path topology n route short = by (ports_of topology route) refl
  where
    passed : (path : List ℕ) → ports_of topology route ≡ Some path → (valid : Bool)
        → declared_path Two topology n path valid ≡ declared_path Three topology n path valid
    passed path h false = refl
    passed path h true =
        ap (λ (b : Bool). ok_where (b && true) (net.BadPath n.table n.number) path) (short path h).stations

    by : (o : Option (List ℕ)) → ports_of topology route ≡ o
        → (or_fault (net.BadPath n.table n.number) o >>= λ path. declared_path Two topology n path
        (is_valid topology path))
        ≡ (or_fault (net.BadPath n.table n.number) o >>= λ path. declared_path Three topology n path
        (is_valid topology path))
    by None h = refl
    by (Some path) h = passed path h (is_valid topology path)

-- paths that are short break no limit
none_bad : (most : ℕ) (routes : List (List ℕ)) → All IsPath routes → AreShort most routes
    → list_any (is_bad_route most) routes ≡ false
none_bad most [] paths short = refl
none_bad most (route ∷ routes) paths short =
    let rest : Bool = list_any (is_bad_route most) routes in
    ap (λ (b : Bool). (b || nat_lt most (length route)) || rest)
    (le-ltb (length route) 1 (All-head IsPath route routes paths).least)
    ∙ ap (λ (b : Bool). b || rest) (le-ltb most (length route) (All-head (IsShort most) route routes short))
    ∙ none_bad most routes (All-tail IsPath route routes paths) (All-tail (IsShort most) route routes short)

no_limit : (most : ℕ) (routes : List (List ℕ)) → All IsPath routes → AreShort most routes
    → route_fault most routes ≡ None
no_limit most routes paths short =
    ap (λ (b : Bool). let o : Option StreamFault = cond b (Some Limit) None in o) (none_bad most routes paths short)

-- and so they do where long ones may stand
same_limit : (routes : List (List ℕ)) → All IsPath routes → AreShort MAX_SHORT_PORTS routes
    → route_fault MAX_PORTS routes ≡ route_fault MAX_SHORT_PORTS routes
same_limit routes paths short =
    no_limit MAX_PORTS routes paths
    (All-weaker (IsShort MAX_SHORT_PORTS) (IsShort MAX_PORTS) (λ route h. omega (arith, h)) routes short)
    ∙ sym (no_limit MAX_SHORT_PORTS routes paths short)

same_stream : (given : List ℕ) (s : DeclaredStream) → AreShort MAX_SHORT_PORTS (routes_of s.ports s.branches)
    → stream_fault_within MAX_PORTS given s ≡ stream_fault_within MAX_SHORT_PORTS given s
same_stream given s short = by (stream_fault given s) refl
  where
    by : (o : Option StreamFault) → stream_fault given s ≡ o
        → option_or o (route_fault MAX_PORTS (routes_of s.ports s.branches))
        ≡ option_or o (route_fault MAX_SHORT_PORTS (routes_of s.ports s.branches))
    by (Some fault) e = refl
    by None e = same_limit (routes_of s.ports s.branches) (routes_keep given s e) short

same_flow : (f : DeclaredFlow) → AreShort MAX_SHORT_PORTS (f.path ∷ [])
    → flow_fault_within MAX_PORTS f ≡ flow_fault_within MAX_SHORT_PORTS f
same_flow f short = by (flow_fault f) refl
  where
    by : (o : Option StreamFault) → flow_fault f ≡ o
        → option_or o (route_fault MAX_PORTS (f.path ∷ [])) ≡ option_or o (route_fault MAX_SHORT_PORTS (f.path ∷ []))
    by (Some fault) e = refl
    by None e = same_limit (f.path ∷ []) (All-cons IsPath f.path [] (flow_keeps f e).path (All-nil IsPath)) short

-- what becomes of a sender that was made
later : {X : Type 0} (n : Place) (made : Result X NetFault) (push : X → Option PushFault)
    (grown : X → DeclaredNetwork)
    → (made >>= λ x. unless (refusal_of n) (push x) (long (grown x)))
    ≡ as_long (made >>= λ x. unless (refusal_of n) (push x) (grown x))
later n (Err fault) push grown = refl
later n (Ok x) push grown = by (push x)
  where
    by : (o : Option PushFault)
        → unless (refusal_of n) o (long (grown x)) ≡ as_long (unless (refusal_of n) o (grown x))
    by (Some fault) = refl
    by None = refl

-- one sender more
stream_step : (s : DeclaredNetwork) (n : Place) (e : file.DeclaredStream) → s.most_ports ≡ MAX_SHORT_PORTS
    → All (HasShortRoute s.topology) e.routes → stream_added Three (long s) n e ≡ as_long (stream_added Two s n e)
stream_step s n e most short =
    by (legs_in Three s.topology n e.routes) refl
    ∙ ap (λ (r : Result DeclaredLegs NetFault). as_long (r >>= behind)) (sym (same_legs s.topology n e short))
  where
    behind : DeclaredLegs → Result DeclaredNetwork NetFault
    behind legs = stream_made s.topology s.most_ports n e (stream_over legs e)
        >>= λ x. unless (refusal_of n) (stream_push_fault s x) (with_stream s x)

    by : (r : Result DeclaredLegs NetFault) → legs_in Three s.topology n e.routes ≡ r
        → (r >>= λ legs. stream_made s.topology MAX_PORTS n e (stream_over legs e)
        >>= λ x. unless (refusal_of n) (stream_push_fault s x) (long (with_stream s x)))
        ≡ as_long (r >>= behind)
    by (Err fault) h = refl
    by (Ok legs) h =
        let it : DeclaredStream = stream_over legs e in
        let routed : IsRouted Three s.topology (entry.stream n e) legs =
        (stream_reads Three s.topology e n).some legs h in
        let few : AreShort MAX_SHORT_PORTS (routes_of legs.ports legs.branches) =
        subst (AreShort MAX_SHORT_PORTS) (sym routed.have.routes_are)
        (routes_short s.topology e.routes routed.routes short routed.ports) in
        ap (λ (o : Option StreamFault). unless (net.Sender n.table n.number) o it
        >>= λ x. unless (refusal_of n) (stream_push_fault s x) (long (with_stream s x)))
        (ap (λ (o : Option StreamFault). option_or o (rate_fault s.topology it)) (same_stream e.classes it few)
        ∙ ap (λ (m : ℕ). stream_fault_over s.topology m e.classes it) (sym most))
        ∙ later n (stream_made s.topology s.most_ports n e it) (stream_push_fault s) (with_stream s)

flow_step : (s : DeclaredNetwork) (n : Place) (e : file.DeclaredFlow) → s.most_ports ≡ MAX_SHORT_PORTS
    → HasShortRoute s.topology e.route → flow_added Three (long s) n e ≡ as_long (flow_added Two s n e)
flow_step s n e most short =
    by (path_in Three s.topology n e.route) refl
    ∙ ap (λ (r : Result (List ℕ) NetFault). as_long (r >>= behind)) (sym (same_path s.topology n e.route short))
  where
    behind : List ℕ → Result DeclaredNetwork NetFault
    behind path = flow_made s.most_ports n (flow_over path e)
        >>= λ x. unless (refusal_of n) (flow_push_fault s x) (with_flow s x)

    by : (r : Result (List ℕ) NetFault) → path_in Three s.topology n e.route ≡ r
        → (r >>= λ path. flow_made MAX_PORTS n (flow_over path e)
        >>= λ x. unless (refusal_of n) (flow_push_fault s x) (long (with_flow s x)))
        ≡ as_long (r >>= behind)
    by (Err fault) h = refl
    by (Ok path) h =
        let it : DeclaredFlow = flow_over path e in
        let read : (path_in Three s.topology n e.route >>= λ p. Ok (alone p)) ≡ Ok (alone path) =
        ap (λ (r : Result (List ℕ) NetFault). r >>= λ p. Ok (alone p)) h in
        let routed : IsRouted Three s.topology (entry.flow n e) (alone path) =
        (flow_reads Three s.topology e n).some (alone path) read in
        let few : AreShort MAX_SHORT_PORTS (path ∷ []) =
        subst (AreShort MAX_SHORT_PORTS) (sym routed.have.routes_are)
        (routes_short s.topology (e.route ∷ []) routed.routes
        (All-cons (HasShortRoute s.topology) e.route [] short (All-nil (HasShortRoute s.topology))) routed.ports) in
        ap (λ (o : Option StreamFault). unless (net.Sender n.table n.number) o it
        >>= λ x. unless (refusal_of n) (flow_push_fault s x) (long (with_flow s x)))
        (same_flow it few ∙ ap (λ (m : ℕ). flow_fault_within m it) (sym most))
        ∙ later n (flow_made s.most_ports n it) (flow_push_fault s) (with_flow s)

-- what a step leaves as it was
record Keeps (s next : DeclaredNetwork) : Type 0 where
  topology : next.topology ≡ s.topology
  most : next.most_ports ≡ s.most_ports

-- all of a list, as format 3 and as format 2 have it
all_long : {E : Type 0} (added brief : DeclaredNetwork → Place → E → Result DeclaredNetwork NetFault)
    (Short : DeclaredTopology → E → Type 0)
    → ((s : DeclaredNetwork) (n : Place) (e : E) → s.most_ports ≡ MAX_SHORT_PORTS → Short s.topology e
    → added (long s) n e ≡ as_long (brief s n e))
    → ((s : DeclaredNetwork) (n : Place) (e : E) (next : DeclaredNetwork) → brief s n e ≡ Ok next → Keeps s next)
    → (topology : DeclaredTopology) (s : DeclaredNetwork) (es : List (Place × E)) → s.topology ≡ topology
    → s.most_ports ≡ MAX_SHORT_PORTS → All (Short topology) (map (λ x. x.1) es)
    → all_added added (long s) es ≡ as_long (all_added brief s es)
all_long added brief Short step keeps topology s [] over most short = refl
all_long {E} added brief Short step keeps topology s (e ∷ es) over most short =
    ap (λ (r : Result DeclaredNetwork NetFault). r >>= λ next. all_added added next es)
    (step s e.0 e.1 most (subst (λ (t : DeclaredTopology). Short t e.1) (sym over)
    (All-head (Short topology) e.1 (map (λ x. x.1) es) short)))
    ∙ by (brief s e.0 e.1) refl (λ next kept. all_long added brief Short step keeps topology next es
    (kept.topology ∙ over) (kept.most ∙ most) (All-tail (Short topology) e.1 (map (λ x. x.1) es) short))
  where
    by : (r : Result DeclaredNetwork NetFault) → brief s e.0 e.1 ≡ r
        → ((next : DeclaredNetwork) → Keeps s next
        → all_added added (long next) es ≡ as_long (all_added brief next es))
        → (as_long r >>= λ next. all_added added next es)
        ≡ as_long (r >>= λ next. all_added brief next es)
    by (Err fault) h rest = refl
    by (Ok next) h rest = rest next (keeps s e.0 e.1 next h)

stream_keeps_most : (s : DeclaredNetwork) (n : Place) (e : file.DeclaredStream) (next : DeclaredNetwork)
    → stream_added Two s n e ≡ Ok next → Keeps s next
stream_keeps_most s n e next h = record {
  topology = ap (λ (m : DeclaredNetwork). m.topology) (stream_stands Two s n e next h).added;
  most = ap (λ (m : DeclaredNetwork). m.most_ports) (stream_stands Two s n e next h).added;
}

flow_keeps_most : (s : DeclaredNetwork) (n : Place) (e : file.DeclaredFlow) (next : DeclaredNetwork)
    → flow_added Two s n e ≡ Ok next → Keeps s next
flow_keeps_most s n e next h = record {
  topology = ap (λ (m : DeclaredNetwork). m.topology) (flow_stands Two s n e next h).added;
  most = ap (λ (m : DeclaredNetwork). m.most_ports) (flow_stands Two s n e next h).added;
}

-- the senders of a document over a topology
senders_long : (d : file.DeclaredDocument) (topology : DeclaredTopology) → HasShortSenders topology d
    → (all_added (stream_added Three) (network_within topology MAX_PORTS [] []) (streams_in topology d)
    >>= λ s. all_added (flow_added Three) s (flows_in topology d))
    ≡ as_long (all_added (stream_added Two) (network_within topology MAX_SHORT_PORTS [] []) (streams_in topology d)
    >>= λ s. all_added (flow_added Two) s (flows_in topology d))
senders_long d topology short =
    ap (λ (r : Result DeclaredNetwork NetFault). r >>= λ s. all_added (flow_added Three) s (flows_in topology d))
    (all_long (stream_added Three) (stream_added Two) StreamIsShort stream_step stream_keeps_most topology
    (network_within topology MAX_SHORT_PORTS [] []) (streams_in topology d) refl refl
    (subst (All (StreamIsShort topology)) (sym (both_flat (streams_at topology) Stream LinkLocal d.streams
    d.link_locals)) short.0))
    ∙ by (all_added (stream_added Two) (network_within topology MAX_SHORT_PORTS [] []) (streams_in topology d)) refl
  where
    by : (r : Result DeclaredNetwork NetFault)
        → all_added (stream_added Two) (network_within topology MAX_SHORT_PORTS [] []) (streams_in topology d) ≡ r
        → (as_long r >>= λ s. all_added (flow_added Three) s (flows_in topology d))
        ≡ as_long (r >>= λ s. all_added (flow_added Two) s (flows_in topology d))
    by (Err fault) h = refl
    by (Ok s) h =
        let stands = streams_stand Two (network_within topology MAX_SHORT_PORTS [] []) (streams_in topology d) s h in
        all_long (flow_added Three) (flow_added Two) FlowIsShort flow_step flow_keeps_most topology s
        (flows_in topology d) stands.topology stands.most
        (subst (All (FlowIsShort topology)) (sym (both_flat (flows_at topology) Flow LinkLocalFlow d.flows
        d.link_local_flows)) short.1)

pub short_routes_are_of_both : ShortRoutesAreOfBoth
short_routes_are_of_both d short = by (topology_fault (nodes_of d) (links_of d))
  where
    by : (o : Option TopologyFault)
        → (unless net.Topology o (topology_of (nodes_of d) (links_of d))
        >>= λ t. all_added (stream_added Three) (network_within t MAX_PORTS [] []) (streams_in t d)
        >>= λ s. all_added (flow_added Three) s (flows_in t d))
        ≡ as_long (unless net.Topology o (topology_of (nodes_of d) (links_of d))
        >>= λ t. all_added (stream_added Two) (network_within t MAX_SHORT_PORTS [] []) (streams_in t d)
        >>= λ s. all_added (flow_added Two) s (flows_in t d))
    by (Some fault) = refl
    by None = senders_long d (topology_of (nodes_of d) (links_of d)) short

-- formats 1 and 2 ask the same of routes
pub format_one_is_format_two : FormatOneIsFormatTwo
format_one_is_format_two d = refl
