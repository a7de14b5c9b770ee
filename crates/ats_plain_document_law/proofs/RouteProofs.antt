use Rattle.std.proofs.Common.{◌≡◌, ◌∙◌, ◌↔◌, ℕ, List, [], ◌∷◌, Option, Some, None, refl, ap, subst}
use Rattle.std.specs.Prelude.{option_and_then}
use Rattle.std.specs.List.{AllZip}
use Rattle.std.specs.Option.{option_map}
use Rattle.ats_num.specs.Places.{place_of}
use Rattle.ats_topology.specs.Node.{names_of}
use Rattle.ats_topology.specs.Port.{port_at, port_between}
use Rattle.ats_topology.specs.Topology.{DeclaredTopology}
use Rattle.ats_network.specs.Shortest.{shortest_of}
use Rattle.ats_route_tree.specs.Legs.{DeclaredLegs}
use Rattle.ats_network_toml.specs.Document.{DeclaredRoute, ends, path}
use Rattle.ats_network_file.specs.Routes.{legs_of, legs_with, port_to, ports_of, ports_of_each, ports_onward}
use Rattle.ats_plain_document_law.specs.Routes.{LeadBy, PortsLeadOnward, RoutesAreDeclared}

-- Which ports a route has, and which legs its routes.

-- a value, and what comes of it
abbrev Both : {A B : Type 0} → Option A → (A → Option B) → B → Type 0
Both {A} o f y = (x : A) × (o ≡ Some x) × (f x ≡ Some y)

and_then : {A B : Type 0} (o : Option A) (f : A → Option B) (y : B) → option_and_then f o ≡ Some y → Both o f y
and_then None f y h = cc h
and_then (Some x) f y h = (x, refl, h)

then_some : {A B : Type 0} (o : Option A) (f : A → Option B) (y : B) → Both o f y → option_and_then f o ≡ Some y
then_some o f y is = ap (option_and_then f) is.1 ∙ is.2

-- a value with another in front
abbrev InFront : {A : Type 0} → A → Option (List A) → List A → Type 0
InFront {A} x o ys = (xs : List A) × (o ≡ Some xs) × (ys ≡ x ∷ xs)

in_front : {A : Type 0} (x : A) (o : Option (List A)) (ys : List A) → option_map (λ xs. x ∷ xs) o ≡ Some ys
    → InFront x o ys
in_front x None ys h = cc h
in_front x (Some xs) ys h = (xs, refl, cc h)

front_some : {A : Type 0} (x : A) (o : Option (List A)) (ys : List A) → InFront x o ys
    → option_map (λ xs. x ∷ xs) o ≡ Some ys
front_some {A} x o ys is =
    let same : Some (x ∷ is.0) ≡ Some ys = cc (is.2) in
    ap (option_map (λ (xs : List A). x ∷ xs)) is.1 ∙ same

onward : PortsLeadOnward
onward = record {
  no_name = λ t a. refl;
  name = λ t a name names ports. (
    (λ h. (
        let hop = and_then (port_to t a name) (λ p. option_map (λ ports. p ∷ ports)
        (ports_onward t (port_at t.ports p).to names)) ports h in
        let to = and_then (place_of name (names_of t.nodes)) (λ b. port_between a b t.ports) hop.0 hop.1 in
        let rest = in_front hop.0 (ports_onward t (port_at t.ports hop.0).to names) ports hop.2 in
        (to.0, hop.0, rest.0, to.1, to.2, rest.1, rest.2))),
    (λ is. then_some (port_to t a name) (λ p. option_map (λ ports. p ∷ ports)
        (ports_onward t (port_at t.ports p).to names)) ports (
          is.1,
          then_some (place_of name (names_of t.nodes)) (λ b. port_between a b t.ports) is.1 (is.0, is.3, is.4),
          front_some is.1 (ports_onward t (port_at t.ports is.1).to names) ports (is.2, is.5, is.6),
        )),
  );
}

by_route : (t : DeclaredTopology) (route : DeclaredRoute) (ports : List ℕ) → ports_of t route ≡ Some ports
    → LeadBy t route ports
by_route t (path []) ports h = cc h
by_route t (path (name ∷ names)) ports h =
    and_then (place_of name (names_of t.nodes)) (λ a. ports_onward t a names) ports h
by_route t (ends from to) ports h =
    let first = and_then (place_of from (names_of t.nodes))
    (λ a. option_and_then (λ b. shortest_of t a b) (place_of to (names_of t.nodes))) ports h in
    let second = and_then (place_of to (names_of t.nodes)) (λ b. shortest_of t first.0 b) ports first.2 in
    (first.0, second.0, first.1, second.1, second.2)

route_by : (t : DeclaredTopology) (route : DeclaredRoute) (ports : List ℕ) → LeadBy t route ports
    → ports_of t route ≡ Some ports
route_by t (path []) ports is = absurd is
route_by t (path (name ∷ names)) ports is =
    then_some (place_of name (names_of t.nodes)) (λ a. ports_onward t a names) ports is
route_by t (ends from to) ports is =
    then_some (place_of from (names_of t.nodes))
    (λ a. option_and_then (λ b. shortest_of t a b) (place_of to (names_of t.nodes))) ports
    (is.0, is.2, then_some (place_of to (names_of t.nodes)) (λ b. shortest_of t is.0 b) ports (is.1, is.3, is.4))

-- the ports of each route
abbrev HaveEach : DeclaredTopology → List DeclaredRoute → List (List ℕ) → Type 0
HaveEach t routes paths = AllZip (λ route ports. ports_of t route ≡ Some ports) routes paths

have_each : (t : DeclaredTopology) (routes : List DeclaredRoute) (paths : List (List ℕ))
    → ports_of_each t routes ≡ Some paths → HaveEach t routes paths
have_each t [] paths h =
    let same : [] ≡ paths = cc h in
    subst (λ (ps : List (List ℕ)). HaveEach t [] ps) same tt
have_each t (route ∷ routes) paths h =
    let one = and_then (ports_of t route)
    (λ ports. option_map (λ more. ports ∷ more) (ports_of_each t routes)) paths h in
    let rest = in_front one.0 (ports_of_each t routes) paths one.2 in
    let same : one.0 ∷ rest.0 ≡ paths = cc (rest.2) in
    subst (λ (ps : List (List ℕ)). HaveEach t (route ∷ routes) ps) same (one.1, have_each t routes rest.0 rest.1)

each_had : (t : DeclaredTopology) (routes : List DeclaredRoute) (paths : List (List ℕ)) → HaveEach t routes paths
    → ports_of_each t routes ≡ Some paths
each_had t [] [] are = refl
each_had t [] (ports ∷ paths) are = absurd are
each_had t (route ∷ routes) [] are = absurd are
each_had t (route ∷ routes) (ports ∷ paths) are =
    then_some (ports_of t route) (λ ports. option_map (λ more. ports ∷ more) (ports_of_each t routes)) (ports ∷ paths) (
      ports,
      are.0,
      front_some ports (ports_of_each t routes) (ports ∷ paths)
          (paths, each_had t routes paths are.1, refl),
    )

legs : (t : DeclaredTopology) (routes : List DeclaredRoute) (legs : DeclaredLegs) → legs_of t routes ≡ Some legs
    ↔ ((paths : List (List ℕ)) × HaveEach t routes paths × (legs_with t paths ≡ Some legs))
legs t routes l = (
  (λ h. (
      let found = and_then (ports_of_each t routes) (legs_with t) l h in
      (found.0, have_each t routes found.0 found.1, found.2))),
  (λ is. then_some (ports_of_each t routes) (legs_with t) l (is.0, each_had t routes is.0 is.1, is.2)),
)

pub routes_are_declared : RoutesAreDeclared
routes_are_declared = record {
  onward = onward;
  ports = λ t route ports. ((λ h. by_route t route ports h), (λ is. route_by t route ports is));
  legs = legs;
}
