use Rattle.std.proofs.Common.{◌≡◌, ℕ, ◌≤◌, Bool, true, false, ◌||◌, ◌&&◌, not, cond, List, [], ◌∷◌, length, Option}
use Rattle.std.proofs.Common.{Some, None, refl, sym, subst}
use Rattle.std.specs.Prelude.{nat_lt, ◌==◌}
use Rattle.std.specs.List.{All, list_any}
use Rattle.std.proofs.lemmas.Bool.{or_parts, ltb-false}
use Rattle.std.proofs.lemmas.List.Elements.{All-nil, All-cons, All-head, All-replicate}
use Rattle.ats_facts.proofs.Options.{option_or-none}
use Rattle.ats_num.specs.Wire.{bits_of}
use Rattle.ats_num.specs.declared.rate.TheConstants.{MAX_BPS, MAX_BURST_BITS}
use Rattle.ats_num.specs.declared.wire.TheConstants.{MIN_OCTETS, MAX_OCTETS}
use Rattle.ats_streams.specs.Rules.{KeepsRules}
use Rattle.ats_streams.specs.Fault.{rules_fault}
use Rattle.ats_streams.specs.Branches.{AreBranches, AreShort, is_bad_route, routes_of}
use Rattle.ats_streams.specs.Flow.{DeclaredFlow, IsFlow, flow_fault, flow_fault_within}
use Rattle.ats_streams.specs.Path.{IsPath}
use Rattle.ats_streams.specs.Stream.{DeclaredStream, IsStream, IsClass, MayIdentify, stream_fault, limit_fault}
use Rattle.ats_streams.specs.Stream.{is_bad_class, are_bad_classes, classes_for, route_fault, stream_fault_within}
use Rattle.ats_network.specs.Network.{HasShortPath, HasShortRoutes}
use Rattle.ats_streams.proofs.ClassLemmas.{so_many}
use Rattle.ats_streams.specs.declared.path.TheConstants.{MAX_PORTS}
use Rattle.ats_streams.specs.declared.stream.TheConstants.{MAX_CLASS, MAX_DEADLINE_NS}

-- Streams and flows without a fault keep what each stream and each flow keeps.

-- where no test finds a fault, each fails
pub record Passed {F : Type 0} (a : Bool) (rest : Option F) : Type 0 where
  pub test : a ≡ false
  pub none : rest ≡ None

pub passed : {F : Type 0} (a : Bool) (fault : F) (rest : Option F) → cond a (Some fault) rest ≡ None → Passed a rest
passed true fault rest h = cc
passed false fault rest h = record { test = refl; none = h }

record Between (least most x : ℕ) : Type 0 where
  above : least ≤ x
  below : x ≤ most

between : (least most x : ℕ) → (nat_lt x least || nat_lt most x) ≡ false → Between least most x
between least most x h =
    let parts : (nat_lt x least ≡ false) × (nat_lt most x ≡ false) = or_parts (nat_lt x least) (nat_lt most x) h in
    record { above = ltb-false x least parts.0; below = ltb-false most x parts.1 }

rules_kept : (rate burst least most : ℕ) → rules_fault rate burst least most ≡ None → KeepsRules rate burst least most
rules_kept rate burst least most h =
    let a = passed (nat_lt rate 1 || nat_lt MAX_BPS rate) _ _ h in
    let b = passed (nat_lt least MIN_OCTETS || nat_lt most least || nat_lt MAX_OCTETS most) _ _ a.none in
    let c = passed (nat_lt burst (bits_of most)) _ _ b.none in
    let d = passed (nat_lt MAX_BURST_BITS burst) _ _ c.none in
    let rated : Between 1 MAX_BPS rate = between 1 MAX_BPS rate a.test in
    let sizes : ((nat_lt least MIN_OCTETS || nat_lt most least) ≡ false) × (nat_lt MAX_OCTETS most ≡ false) =
    or_parts (nat_lt least MIN_OCTETS || nat_lt most least) (nat_lt MAX_OCTETS most) b.test in
    let ordered : (nat_lt least MIN_OCTETS ≡ false) × (nat_lt most least ≡ false) =
    or_parts (nat_lt least MIN_OCTETS) (nat_lt most least) sizes.0 in
    record {
      rate = record { positive = rated.above; within = rated.below };
      sizes = record {
        least = ltb-false least MIN_OCTETS ordered.0;
        ordered = ltb-false most least ordered.1;
        most = ltb-false MAX_OCTETS most sizes.1;
      };
      covers = ltb-false burst (bits_of most) c.test;
      burst = ltb-false MAX_BURST_BITS burst d.test;
    }

class_kept : (class : ℕ) → is_bad_class class ≡ false → IsClass class
class_kept class h =
    let within : Between 1 MAX_CLASS class = between 1 MAX_CLASS class h in
    record { least = within.above; most = within.below }

each_kept : (given : List ℕ) → list_any is_bad_class given ≡ false → All IsClass given
each_kept [] h = All-nil IsClass
each_kept (class ∷ given) h =
    let parts : (is_bad_class class ≡ false) × (list_any is_bad_class given ≡ false) =
    or_parts (is_bad_class class) (list_any is_bad_class given) h in
    All-cons IsClass class given (class_kept class parts.0) (each_kept given parts.1)

along_kept : (ports : ℕ) (given : List ℕ) → list_any is_bad_class given ≡ false → All IsClass (classes_for ports given)
along_kept ports [] h = All-nil IsClass
along_kept ports (class ∷ []) h =
    let parts : (is_bad_class class ≡ false) × (false ≡ false) = or_parts (is_bad_class class) false h in
    All-replicate IsClass ports class (class_kept class parts.0)
along_kept ports (class ∷ other ∷ given) h = each_kept (class ∷ other ∷ given) h

-- classes that are not bad are classes, one for each port
record AreClasses (ports : ℕ) (classes : List ℕ) : Type 0 where
  each : All IsClass classes
  count : length classes ≡ ports

classes_kept : (ports : ℕ) (given : List ℕ) → are_bad_classes ports given ≡ false
    → AreClasses ports (classes_for ports given)
classes_kept ports given h =
    let parts : (list_any is_bad_class given ≡ false)
    × ((not (length given == 1) && not (length given == ports)) ≡ false) =
    or_parts (list_any is_bad_class given) (not (length given == 1) && not (length given == ports)) h in
    record { each = along_kept ports given parts.0; count = so_many ports given h }

route_kept : (route : List ℕ) → is_bad_route MAX_PORTS route ≡ false → IsPath route
route_kept route h =
    let within : Between 1 MAX_PORTS (length route) = between 1 MAX_PORTS (length route) h in
    record { least = within.above; most = within.below }

routes_kept : (routes : List (List ℕ)) → list_any (is_bad_route MAX_PORTS) routes ≡ false → All IsPath routes
routes_kept [] h = All-nil IsPath
routes_kept (route ∷ routes) h =
    let parts : (is_bad_route MAX_PORTS route ≡ false) × (list_any (is_bad_route MAX_PORTS) routes ≡ false) =
    or_parts (is_bad_route MAX_PORTS route) (list_any (is_bad_route MAX_PORTS) routes) h in
    All-cons IsPath route routes (route_kept route parts.0) (routes_kept routes parts.1)

-- each route of a stream without a fault is a path
pub routes_keep : (given : List ℕ) (s : DeclaredStream) → stream_fault given s ≡ None
    → All IsPath (routes_of s.ports s.branches)
routes_keep given s h =
    let routes : List (List ℕ) = routes_of s.ports s.branches in
    let a = passed (are_bad_classes (length s.ports) given) _ _ h in
    let b =
    option_or-none (rules_fault s.rate s.burst_bits s.min_octets s.max_octets) (limit_fault routes s.deadline_ns)
    a.none in
    let c = passed (list_any (is_bad_route MAX_PORTS) routes) _ _ b.1 in
    routes_kept routes c.test

-- a stream without a fault, whose branches are lawful and whose identity is one, keeps what each stream keeps
pub stream_keeps : (given : List ℕ) (s : DeclaredStream) → s.classes ≡ classes_for (length s.ports) given
    → AreBranches s.ports s.branches → MayIdentify s.identity → stream_fault given s ≡ None → IsStream s
stream_keeps given s along branches identity h =
    let a = passed (are_bad_classes (length s.ports) given) _ _ h in
    let routes : List (List ℕ) = routes_of s.ports s.branches in
    let b =
    option_or-none (rules_fault s.rate s.burst_bits s.min_octets s.max_octets) (limit_fault routes s.deadline_ns)
    a.none in
    let c = passed (list_any (is_bad_route MAX_PORTS) routes) _ _ b.1 in
    let d = passed (nat_lt s.deadline_ns 1 || nat_lt MAX_DEADLINE_NS s.deadline_ns) _ _ c.none in
    let classes : AreClasses (length s.ports) s.classes =
    subst (AreClasses (length s.ports)) (sym along) (classes_kept (length s.ports) given a.test) in
    let deadline : Between 1 MAX_DEADLINE_NS s.deadline_ns = between 1 MAX_DEADLINE_NS s.deadline_ns d.test in
    record {
      classes = classes.each;
      each_port = classes.count;
      rules = rules_kept s.rate s.burst_bits s.min_octets s.max_octets b.0;
      branches = branches;
      routes = routes_keep given s h;
      deadline = record { positive = deadline.above; most = deadline.below };
      identity = identity;
    }

-- and so does a flow
pub flow_keeps : (f : DeclaredFlow) → flow_fault f ≡ None → IsFlow f
flow_keeps f h =
    let a = passed (nat_lt f.max_octets MIN_OCTETS || nat_lt MAX_OCTETS f.max_octets) _ _ h in
    let b = passed (nat_lt (length f.path) 1 || nat_lt MAX_PORTS (length f.path)) _ _ a.none in
    let size : Between MIN_OCTETS MAX_OCTETS f.max_octets = between MIN_OCTETS MAX_OCTETS f.max_octets a.test in
    let ports : Between 1 MAX_PORTS (length f.path) = between 1 MAX_PORTS (length f.path) b.test in
    record {
      size = record { least = size.above; most = size.below };
      path = record { least = ports.above; most = ports.below };
    }

-- of one that breaks no rule where a route may have so many ports, the rules of each stream or flow are kept, and no
-- route has more
routes_short : (most : ℕ) (routes : List (List ℕ)) → list_any (is_bad_route most) routes ≡ false → AreShort most routes
routes_short most [] h = All-nil (λ (route : List ℕ). length route ≤ most)
routes_short most (route ∷ routes) h =
    let parts : (is_bad_route most route ≡ false) × (list_any (is_bad_route most) routes ≡ false) =
    or_parts (is_bad_route most route) (list_any (is_bad_route most) routes) h in
    let within : Between 1 most (length route) = between 1 most (length route) parts.0 in
    All-cons (λ (route : List ℕ). length route ≤ most) route routes within.below (routes_short most routes parts.1)

pub stream_faultless : (most : ℕ) (given : List ℕ) (s : DeclaredStream) → stream_fault_within most given s ≡ None
    → stream_fault given s ≡ None
stream_faultless most given s h =
    (option_or-none (stream_fault given s) (route_fault most (routes_of s.ports s.branches)) h).0

pub stream_short : (most : ℕ) (given : List ℕ) (s : DeclaredStream) → stream_fault_within most given s ≡ None
    → HasShortRoutes most s
stream_short most given s h =
    let routes : List (List ℕ) = routes_of s.ports s.branches in
    let parts = option_or-none (stream_fault given s) (route_fault most routes) h in
    let a = passed (list_any (is_bad_route most) routes) _ _ parts.1 in
    routes_short most routes a.test

pub flow_faultless : (most : ℕ) (f : DeclaredFlow) → flow_fault_within most f ≡ None → flow_fault f ≡ None
flow_faultless most f h = (option_or-none (flow_fault f) (route_fault most (f.path ∷ [])) h).0

pub flow_short : (most : ℕ) (f : DeclaredFlow) → flow_fault_within most f ≡ None → HasShortPath most f
flow_short most f h =
    let parts = option_or-none (flow_fault f) (route_fault most (f.path ∷ [])) h in
    let a = passed (list_any (is_bad_route most) (f.path ∷ [])) _ _ parts.1 in
    All-head (λ (route : List ℕ). length route ≤ most) f.path [] (routes_short most (f.path ∷ []) a.test)
