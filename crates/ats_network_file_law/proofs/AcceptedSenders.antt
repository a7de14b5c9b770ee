-- What a stream or a flow of a network keeps is no fault.
use Rattle.std.proofs.Common.{◌≡◌, ◌≢◌, ◌∙◌, ℕ, zero, suc, ◌+◌, ◌≤◌, Bool, true, false, ◌&&◌, ◌||◌, not, List, [], ◌∷◌}
use Rattle.std.proofs.Common.{◌++◌, length, get_or, Option, Some, None, cond, refl, sym, ap, subst, arith, append_assoc}
use Rattle.std.proofs.Common.{length-append}
use Rattle.std.specs.Prelude.{is_some, nat_le, nat_lt, ◌==◌, replicate}
use Rattle.std.specs.List.{All, AllPairs, list_any}
use Rattle.std.specs.Option.{option_or}
use Rattle.std.specs.Str.{bytes_eq}
use Rattle.std.proofs.lemmas.Bool.{and_parts, and_right, eq-eqb, eqb-true, false≢true, le-ltb, lt-leb, not_from_true}
use Rattle.std.proofs.lemmas.Bool.{or_from}
use Rattle.std.proofs.lemmas.List.{append-nil, map-append}
use Rattle.std.proofs.lemmas.List.Elements.{All-append, All-cons, All-head, All-nil, All-weaker}
use Rattle.std.proofs.lemmas.List.Folds.{list_any_none}
use Rattle.std.proofs.lemmas.List.Sums.{sum_by_push}
use Rattle.ats_facts.proofs.Lists.{all_right, pairs_head, pairs_tail}
use Rattle.ats_num.specs.Places.{place_of}
use Rattle.ats_num.specs.Wire.{bits_of}
use Rattle.ats_num.specs.declared.rate.TheConstants.{MAX_BPS, MAX_BURST_BITS}
use Rattle.ats_num.specs.declared.wire.TheConstants.{MAX_OCTETS, MIN_OCTETS}
use Rattle.ats_topology.specs.Node.{AreApart}
use Rattle.ats_topology.specs.Topology.{DeclaredTopology}
use Rattle.ats_streams.specs.Branches.{AreBranches, AreShort, is_bad_route, routes_of}
use Rattle.ats_streams.specs.Fault.{rules_fault}
use Rattle.ats_streams.specs.Flow.{DeclaredFlow, IsFlow, flow_fault}
use Rattle.ats_streams.specs.Path.{IsPath}
use Rattle.ats_streams.specs.Rules.{KeepsRules}
use Rattle.ats_streams.specs.Stream.{DeclaredStream, IsClass, IsStream, are_bad_classes, classes_for, is_bad_class}
use Rattle.ats_streams.specs.Stream.{limit_fault, route_fault, stream_fault, stream_fault_within}
use Rattle.ats_streams.specs.declared.branch.Branch.{Branch}
use Rattle.ats_streams.specs.declared.fault.StreamFault.TheVariants as rule
use Rattle.ats_streams.specs.declared.path.TheConstants.{MAX_PORTS}
use Rattle.ats_streams.specs.declared.stream.TheConstants.{MAX_CLASS, MAX_DEADLINE_NS}
use Rattle.ats_network.specs.Network.{AreIdentified, DeclaredNetwork, HasShortPath, HasShortRoutes, IsNetwork, Share}
use Rattle.ats_network.specs.Network.{names_of, ports_together, senders_of}
use Rattle.ats_network.specs.Pushes.{has_identity, is_beyond, is_full, is_identity, is_identity_taken}
use Rattle.ats_network.specs.Pushes.{is_name_taken, place_identified, with_flow, with_stream}
use Rattle.ats_network.specs.Rates.{HasRates, is_overrated}
use Rattle.ats_network.specs.Sender.{stream_sender}
use Rattle.ats_network.specs.Tables.{flow_names, stream_names}
use Rattle.ats_network.specs.declared.fault.PushFault.TheVariants as push
use Rattle.ats_network.specs.declared.network.TheConstants.{MAX_FLOWS, MAX_PORTS_TOGETHER, MAX_STREAMS}
use Rattle.ats_network.proofs.Appended.{position_from-fails}
use Rattle.ats_network.proofs.NameLemmas.{bytes_ne, names_of-senders, pairs_from_apart}
use Rattle.ats_network.proofs.Rated.{overrated}
use Rattle.ats_network_file.specs.Senders.{rate_fault}
use Rattle.ats_network_file_law.specs.Accepted.{FlowIsTaken, SendersAreAccepted, StreamIsTaken}

-- a test that fails gives no fault
untold : {F : Type 0} (test : Bool) (fault : F) (rest : Option F) → test ≡ false → rest ≡ None
    → cond test (Some fault) rest ≡ None
untold test fault rest fails none = ap (λ b. cond b (Some fault) rest) fails ∙ none

-- nor do two that give none
neither : {F : Type 0} (a b : Option F) → a ≡ None → b ≡ None → option_or a b ≡ None
neither a b h g = ap (λ o. option_or o b) h ∙ g

good_class : (class : ℕ) → IsClass class → is_bad_class class ≡ false
good_class class is =
    or_from (nat_lt class 1) (nat_lt MAX_CLASS class) (le-ltb class 1 is.least) (le-ltb MAX_CLASS class is.most)

-- a stream has a port
some_port : (ports : List ℕ) (branches : List Branch) → AreBranches ports branches
    → All IsPath (routes_of ports branches) → 1 ≤ length ports
some_port ports [] are paths = (All-head IsPath ports [] paths).least
some_port ports (b ∷ branches) are paths =
    let places = are.places in omega (arith, places.0, places.1)

-- no class that is given is bad, where these give a stream its classes
good_classes : (given classes : List ℕ) (ports : ℕ) → 1 ≤ ports → All IsClass classes → length classes ≡ ports
    → classes ≡ classes_for ports given → are_bad_classes ports given ≡ false
good_classes [] classes ports some each long is =
    let none : length classes ≡ 0 = ap (λ (cs : List ℕ). length cs) is in absurd (omega (arith, none, long, some))
good_classes (class ∷ []) classes ports some each long is =
    let same : All IsClass (replicate ports class) = subst (All IsClass) is each in
    or_from (is_bad_class class || false) (not (1 == 1) && not (1 == ports))
    (or_from (is_bad_class class) false (good_class class (one ports some same)) refl) refl
  where
    one : (n : ℕ) → 1 ≤ n → All IsClass (replicate n class) → IsClass class
    one zero some all = absurd (omega (arith, some))
    one (suc n) some all = All-head IsClass class (replicate n class) all
good_classes (class ∷ next ∷ more) classes ports some each long is =
    let given : List ℕ = class ∷ next ∷ more in
    let same : All IsClass given = subst (All IsClass) is each in
    let many : length given ≡ ports = sym (ap (λ (cs : List ℕ). length cs) is) ∙ long in
    or_from (list_any is_bad_class given) (not (length given == 1) && not (length given == ports))
    (list_any_none is_bad_class given (λ k d below. good_class (get_or given k d) (same k d below)))
    (and_right (not (length given == 1)) (not (length given == ports))
    (not_from_true (length given == ports) (eq-eqb (length given) ports many)))

good_rules : (rate burst least greatest : ℕ) → KeepsRules rate burst least greatest
    → rules_fault rate burst least greatest ≡ None
good_rules rate burst least greatest keeps =
    untold _ rule.BadRate _ (or_from (nat_lt rate 1) (nat_lt MAX_BPS rate) (le-ltb rate 1 keeps.rate.positive)
    (le-ltb MAX_BPS rate keeps.rate.within))
    (untold _ rule.BadSizes _ (or_from (nat_lt least MIN_OCTETS || nat_lt greatest least) (nat_lt MAX_OCTETS greatest)
    (or_from (nat_lt least MIN_OCTETS) (nat_lt greatest least) (le-ltb least MIN_OCTETS keeps.sizes.least)
    (le-ltb greatest least keeps.sizes.ordered))
    (le-ltb MAX_OCTETS greatest keeps.sizes.most))
    (untold _ rule.BurstBelowFrame _ (le-ltb burst (bits_of greatest) keeps.covers)
    (untold _ rule.Limit _ (le-ltb MAX_BURST_BITS burst keeps.burst) refl)))

good_route : (most : ℕ) (route : List ℕ) → 1 ≤ length route → length route ≤ most → is_bad_route most route ≡ false
good_route most route some few =
    or_from (nat_lt (length route) 1) (nat_lt most (length route)) (le-ltb (length route) 1 some)
    (le-ltb most (length route) few)

-- what each stream keeps
good_stream : (given : List ℕ) (s : DeclaredStream) → IsStream s → s.classes ≡ classes_for (length s.ports) given
    → stream_fault given s ≡ None
good_stream given s is classes =
    let routes : List (List ℕ) = routes_of s.ports s.branches in
    untold _ rule.BadClass _ (good_classes given s.classes (length s.ports) (some_port s.ports s.branches is.branches
    is.routes) is.classes is.each_port classes)
    (neither (rules_fault s.rate s.burst_bits s.min_octets s.max_octets) (limit_fault routes s.deadline_ns)
    (good_rules s.rate s.burst_bits s.min_octets s.max_octets is.rules)
    (untold _ rule.Limit _ (list_any_none (is_bad_route MAX_PORTS) routes (λ k d below.
    let path : IsPath (get_or routes k d) = is.routes k d below in
    good_route MAX_PORTS (get_or routes k d) path.least path.most))
    (untold _ rule.Limit None (or_from (nat_lt s.deadline_ns 1) (nat_lt MAX_DEADLINE_NS s.deadline_ns)
    (le-ltb s.deadline_ns 1 is.deadline.positive) (le-ltb MAX_DEADLINE_NS s.deadline_ns is.deadline.most)) refl)))

-- and each flow
good_flow : (f : DeclaredFlow) → IsFlow f → flow_fault f ≡ None
good_flow f is =
    untold _ rule.BadSizes _ (or_from (nat_lt f.max_octets MIN_OCTETS) (nat_lt MAX_OCTETS f.max_octets)
    (le-ltb f.max_octets MIN_OCTETS is.size.least) (le-ltb MAX_OCTETS f.max_octets is.size.most))
    (untold _ rule.Limit None (good_route MAX_PORTS f.path is.path.least is.path.most) refl)

-- the limit on routes that are short
good_routes : (most : ℕ) (routes : List (List ℕ)) → All IsPath routes → AreShort most routes
    → route_fault most routes ≡ None
good_routes most routes paths short =
    untold _ rule.Limit None (list_any_none (is_bad_route most) routes (λ k d below.
    good_route most (get_or routes k d) (paths k d below).least (short k d below))) refl

-- an element that stands between two lists is apart from those of each
around : {X : Type 0} (R : X → X → Type 0) (xs ys : List X) (x : X) → AllPairs R (xs ++ x ∷ ys)
    → All (λ y. R y x) xs × All (R x) ys
around {X} R [] ys x pairs = (All-nil (λ (y : X). R y x), pairs_head R x ys pairs)
around {X} R (z ∷ xs) ys x pairs =
    let rest = around R xs ys x (pairs_tail R z (xs ++ x ∷ ys) pairs) in
    let first : All (R z) (x ∷ ys) = all_right (R z) xs (x ∷ ys) (pairs_head R z (xs ++ x ∷ ys) pairs) in (
      All-cons (λ (y : X). R y x) z xs (All-head (R z) x ys first) rest.0,
      rest.1,
    )

-- a name that stands beside others, all apart, is not among them
not_among : (xs ys : List (List ℕ)) (name : List ℕ) → AreApart (xs ++ name ∷ ys) → place_of name (xs ++ ys) ≡ None
not_among xs ys name apart =
    let sides = around (λ (a b : List ℕ). a ≢ b) xs ys name (pairs_from_apart (xs ++ name ∷ ys) apart) in
    let Fails : List ℕ → Type 0 = λ (other : List ℕ). bytes_eq name other ≡ false in
    position_from-fails (bytes_eq name) 0 (xs ++ ys) (All-append Fails xs ys
    (All-weaker (λ (other : List ℕ). other ≢ name) Fails (λ other ne. bytes_ne name other (λ e. ne (sym e))) xs sides.0)
    (All-weaker (λ (other : List ℕ). name ≢ other) Fails (λ other ne. bytes_ne name other ne) ys sides.1))

none_is_not_some : (o : Option ℕ) → o ≡ None → is_some o ≡ false
none_is_not_some o h = ap (λ (p : Option ℕ). is_some p) h

-- the name of a last stream is not taken
stream_name_free : (network : DeclaredNetwork) (s : DeclaredStream) → IsNetwork (with_stream network s)
    → is_name_taken network s.name ≡ false
stream_name_free network s is =
    let streams : List (List ℕ) = stream_names network.streams in
    let flows : List (List ℕ) = flow_names network.flows in
    let names : AreApart ((streams ++ s.name ∷ []) ++ flows) =
    subst (λ (front : List (List ℕ)). AreApart (front ++ flows))
    (map-append (λ (t : DeclaredStream). t.name) network.streams (s ∷ []))
    (subst AreApart (names_of-senders (with_stream network s)) is.names) in
    let apart : AreApart (streams ++ s.name ∷ flows) =
    subst AreApart (append_assoc streams (s.name ∷ []) flows) names in
    none_is_not_some (place_of s.name (names_of (senders_of network)))
    (ap (place_of s.name) (names_of-senders network) ∙ not_among streams flows s.name apart)

-- nor is that of a last flow
flow_name_free : (network : DeclaredNetwork) (f : DeclaredFlow) → IsNetwork (with_flow network f)
    → is_name_taken network f.name ≡ false
flow_name_free network f is =
    let streams : List (List ℕ) = stream_names network.streams in
    let flows : List (List ℕ) = flow_names network.flows in
    let names : AreApart (streams ++ (flows ++ f.name ∷ [])) =
    subst (λ (back : List (List ℕ)). AreApart (streams ++ back))
    (map-append (λ (g : DeclaredFlow). g.name) network.flows (f ∷ []))
    (subst AreApart (names_of-senders (with_flow network f)) is.names) in
    let apart : AreApart ((streams ++ flows) ++ f.name ∷ []) =
    subst AreApart (sym (append_assoc streams flows (f.name ∷ []))) names in
    let absent : place_of f.name ((streams ++ flows) ++ []) ≡ None = not_among (streams ++ flows) [] f.name apart in
    none_is_not_some (place_of f.name (names_of (senders_of network)))
    (ap (place_of f.name) (names_of-senders network ∙ sym (append-nil (streams ++ flows))) ∙ absent)

-- what passes the test of an identity has it
identity_is : (identity : ℕ × ℕ) (declared : Option (ℕ × ℕ)) → is_identity identity declared ≡ true
    → declared ≡ Some identity
identity_is identity None h = absurd (false≢true h)
identity_is identity (Some d) h =
    let parts = and_parts (d.0 == identity.0) (d.1 == identity.1) h in
    ap (λ (n : ℕ). let pair : ℕ × ℕ = (n, d.1) in Some pair) (eqb-true d.0 identity.0 parts.0)
    ∙ ap (λ (n : ℕ). let pair : ℕ × ℕ = (identity.0, n) in Some pair) (eqb-true d.1 identity.1 parts.1)

-- nor is the identity of a last stream
identity_free : (streams : List DeclaredStream) (s : DeclaredStream) → AreIdentified (streams ++ s ∷ [])
    → is_identity_taken streams s.identity ≡ false
identity_free streams s apart = by s.identity refl
  where
    NotShared : DeclaredStream → DeclaredStream → Type 0
    NotShared t u = (identity : ℕ × ℕ) → ¬ Share t u identity

    others : All (λ (t : DeclaredStream). NotShared t s) streams
    others = (around NotShared streams [] s apart).0

    fails : (identity : ℕ × ℕ) (t : DeclaredStream) → s.identity ≡ Some identity → NotShared t s
        → has_identity identity t ≡ false
    fails identity t own apart = by_test (has_identity identity t) refl
      where
        by_test : (b : Bool) → has_identity identity t ≡ b → has_identity identity t ≡ false
        by_test false e = e
        by_test true e =
            absurd (apart identity (record { one = identity_is identity t.identity e; other = own }))

    by : (o : Option (ℕ × ℕ)) → s.identity ≡ o → is_identity_taken streams o ≡ false
    by None own = refl
    by (Some identity) own =
        none_is_not_some (place_identified identity streams)
        (position_from-fails (has_identity identity) 0 streams (λ k d below.
        fails identity (get_or streams k d) own (others k d below)))

-- and there is room for it
last_has_room : (network : DeclaredNetwork) (s : DeclaredStream) → IsNetwork (with_stream network s)
    → is_full network.streams s.ports ≡ false
last_has_room network s is =
    let many = length-append network.streams (s ∷ []) in
    let together = sum_by_push (λ (t : DeclaredStream). length t.ports) network.streams s in
    or_from (nat_le MAX_STREAMS (length network.streams))
    (nat_lt MAX_PORTS_TOGETHER (ports_together network.streams + length s.ports))
    (lt-leb MAX_STREAMS (length network.streams) (omega (arith, many, is.few_streams)))
    (le-ltb MAX_PORTS_TOGETHER (ports_together network.streams + length s.ports)
    (omega (arith, together, is.few_ports)))

within_rates : (topology : DeclaredTopology) (s : DeclaredStream) → HasRates topology s
    → is_overrated topology (stream_sender s) ≡ false
within_rates topology s rates = by (is_overrated topology (stream_sender s)) refl
  where
    by : (b : Bool) → is_overrated topology (stream_sender s) ≡ b → is_overrated topology (stream_sender s) ≡ false
    by false e = e
    by true e = absurd (overrated topology s e rates)

-- what holds of each element of a list holds of one behind it
last_of : {X : Type 0} (P : X → Type 0) (xs : List X) (x : X) → All P (xs ++ x ∷ []) → P x
last_of P xs x all = All-head P x [] (all_right P xs (x ∷ []) all)

last_stream : (network : DeclaredNetwork) (given : List ℕ) (s : DeclaredStream) → IsNetwork (with_stream network s)
    → s.classes ≡ classes_for (length s.ports) given → StreamIsTaken network given s
last_stream network given s is classes = record {
  over = neither (stream_fault_within network.most_ports given s) (rate_fault network.topology s) kept
      (untold _ rule.Limit None rated refl);
  within = kept;
  added = untold _ push.NameTaken _ (stream_name_free network s is)
      (untold _ push.IdentityTaken _ (identity_free network.streams s is.identities)
      (untold (is_beyond network s) push.Limit None
      (or_from (is_full network.streams s.ports) (is_overrated network.topology (stream_sender s))
      (last_has_room network s is) rated) refl));
}
  where
    keeps : IsStream s
    keeps = last_of IsStream network.streams s is.streams

    kept : stream_fault_within network.most_ports given s ≡ None
    kept = neither (stream_fault given s) (route_fault network.most_ports (routes_of s.ports s.branches))
        (good_stream given s keeps classes)
        (good_routes network.most_ports (routes_of s.ports s.branches) keeps.routes
        (last_of (HasShortRoutes network.most_ports) network.streams s is.short_streams))

    rated : is_overrated network.topology (stream_sender s) ≡ false
    rated = within_rates network.topology s (last_of (HasRates network.topology) network.streams s is.rates)

last_flow : (network : DeclaredNetwork) (f : DeclaredFlow) → IsNetwork (with_flow network f) → FlowIsTaken network f
last_flow network f is =
    let keeps : IsFlow f = last_of IsFlow network.flows f is.flows in
    let short : HasShortPath network.most_ports f =
    last_of (HasShortPath network.most_ports) network.flows f is.short_flows in
    let many = length-append network.flows (f ∷ []) in
    record {
      within = neither (flow_fault f) (route_fault network.most_ports (f.path ∷ [])) (good_flow f keeps)
          (good_routes network.most_ports (f.path ∷ []) (All-cons IsPath f.path [] keeps.path (All-nil IsPath))
          (All-cons (λ (route : List ℕ). length route ≤ network.most_ports) f.path [] short
          (All-nil (λ (route : List ℕ). length route ≤ network.most_ports))));
      added = untold _ push.NameTaken _ (flow_name_free network f is)
          (untold _ push.Limit None
          (lt-leb MAX_FLOWS (length network.flows) (omega (arith, many, is.few_flows))) refl);
    }

pub senders_are_accepted : SendersAreAccepted
senders_are_accepted = record {
  stream = good_stream;
  flow = good_flow;
  last_stream = last_stream;
  last_flow = last_flow;
}
