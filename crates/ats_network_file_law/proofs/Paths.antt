-- The path that a route gives goes as the route says.
use Rattle.std.proofs.Common.{◌≡◌, ◌∙◌, ℕ, List, [], ◌∷◌, Option, Some, None, refl, sym, ap, length, arith, subst, ◌<◌}
use Rattle.std.proofs.lemmas.List.{get_or-map}
use Rattle.std.specs.Prelude.{map, option_and_then}
use Rattle.std.specs.Option.{option_map}
use Rattle.ats_num.specs.Places.{place_of}
use Rattle.ats_topology.specs.Node.{names_of}
use Rattle.ats_topology.specs.Port.{GoesBetween, port_at, port_between}
use Rattle.ats_topology.specs.Topology.{DeclaredTopology, no_node, node_at}
use Rattle.ats_topology.specs.declared.port.Port.{Port}
use Rattle.ats_topology.specs.declared.node.Node.{Node}
use Rattle.ats_topology.proofs.Known.{name_there}
use Rattle.ats_topology.proofs.NameLemmas.{length-names_of}
use Rattle.ats_topology.proofs.KeptRules.{goes_between}
use Rattle.ats_network.specs.Path.{IsValidPath}
use Rattle.ats_network.specs.Shortest.{shortest_of}
use Rattle.ats_network_toml.specs.Document as file
use Rattle.ats_network_file.specs.Routes.{port_to, ports_of, ports_onward}
use Rattle.ats_network_file_law.specs.Entries.{IsPathOf, names_along}

-- what an option and then a function of its value gave
pub record Then {A B : Type 0} (o : Option A) (f : A → Option B) (y : B) : Type 0 where
  pub first : A
  pub is : o ≡ Some first
  pub next : f first ≡ Some y

pub and_then : {A B : Type 0} (o : Option A) (f : A → Option B) (y : B) → option_and_then f o ≡ Some y → Then o f y
and_then None f y h = cc h
and_then (Some x) f y h = record { first = x; is = refl; next = h }

-- what a function made of the value of an option
pub record Mapped {A B : Type 0} (f : A → B) (o : Option A) (y : B) : Type 0 where
  pub value : A
  pub is : o ≡ Some value
  pub made : f value ≡ y

pub mapped : {A B : Type 0} (f : A → B) (o : Option A) (y : B) → option_map f o ≡ Some y → Mapped f o y
mapped f None y h = cc h
mapped f (Some x) y h = record { value = x; is = refl; made = cc h }

-- a port that is found goes between its nodes
some_goes : (ports : List Port) (a b p : ℕ) (number : Option ℕ) → number ≡ Some p → number ≡ port_between a b ports
    → GoesBetween ports a b p
some_goes ports a b p None is found = cc is
some_goes ports a b p (Some q) is found =
    let same : q ≡ p = cc is in
    subst (λ n. GoesBetween ports a b n) same (goes_between ports a b (Some q) found)

-- the node that is found by a name has this name
named : (topology : DeclaredTopology) (name : List ℕ) (n : ℕ) → place_of name (names_of topology.nodes) ≡ Some n
    → (node_at topology.nodes n).name ≡ name
named topology name n is =
    let found = name_there (names_of topology.nodes) name n is in
    let inside : n < length topology.nodes = omega (arith, found.0, length-names_of topology.nodes) in
    sym (get_or-map (λ (m : Node). m.name) topology.nodes n no_node [] inside) ∙ sym found.1

-- a port leads from a node to the one with this name
record Leads (topology : DeclaredTopology) (a : ℕ) (name : List ℕ) (p : ℕ) : Type 0 where
  from : (port_at topology.ports p).from ≡ a
  to : (node_at topology.nodes (port_at topology.ports p).to).name ≡ name

leads : (topology : DeclaredTopology) (a : ℕ) (name : List ℕ) (p : ℕ) → port_to topology a name ≡ Some p
    → Leads topology a name p
leads topology a name p h =
    let found = and_then (place_of name (names_of topology.nodes)) (λ b. port_between a b topology.ports) p h in
    let goes : GoesBetween topology.ports a found.first p =
    some_goes topology.ports a found.first p (port_between a found.first topology.ports) found.next refl in
    record {
      from = goes.from;
      to = ap (λ n. (node_at topology.nodes n).name) goes.to ∙ named topology name found.first found.is;
    }

-- the first of the ports through some nodes leads to the first of these, and the others go on from there
record Begins (topology : DeclaredTopology) (a : ℕ) (name : List ℕ) (names : List (List ℕ)) (path : List ℕ) : Type 0
  where
    port : ℕ
    rest : List ℕ
    first : Leads topology a name port
    onward : ports_onward topology (port_at topology.ports port).to names ≡ Some rest
    whole : port ∷ rest ≡ path

begins : (topology : DeclaredTopology) (a : ℕ) (name : List ℕ) (names : List (List ℕ)) (path : List ℕ)
    → ports_onward topology a (name ∷ names) ≡ Some path → Begins topology a name names path
begins topology a name names path h =
    let there = and_then (port_to topology a name) (λ p. option_map (λ (ports : List ℕ). p ∷ ports)
    (ports_onward topology (port_at topology.ports p).to names)) path h in
    let after = mapped (λ (ports : List ℕ). there.first ∷ ports)
    (ports_onward topology (port_at topology.ports there.first).to names) path there.next in
    record {
      port = there.first;
      rest = after.value;
      first = leads topology a name there.first there.is;
      onward = after.is;
      whole = after.made;
    }

-- the names of the nodes to which the ports of a path lead
abbrev names_to : DeclaredTopology → List ℕ → List (List ℕ)
names_to topology path =
    map (λ n. (node_at topology.nodes n).name) (map (λ q. (port_at topology.ports q).to) path)

-- the ports through some nodes lead to these nodes
to_names : (topology : DeclaredTopology) (a : ℕ) (names : List (List ℕ)) (path : List ℕ)
    → ports_onward topology a names ≡ Some path → names_to topology path ≡ names
to_names topology a [] path h =
    let none : [] ≡ path = cc h in
    ap (names_to topology) (sym none)
to_names topology a (name ∷ names) path h =
    let way = begins topology a name names path h in
    let rest = to_names topology (port_at topology.ports way.port).to names way.rest way.onward in
    ap (names_to topology) (sym way.whole) ∙ rw (way.first.to, rest) refl

-- the first of the ports through some nodes leaves the node from which they lead
from_node : (topology : DeclaredTopology) (a : ℕ) (names : List (List ℕ)) (p : ℕ) (path : List ℕ)
    → ports_onward topology a names ≡ Some (p ∷ path) → (port_at topology.ports p).from ≡ a
from_node topology a [] p path h = cc h
from_node topology a (name ∷ names) p path h =
    let way = begins topology a name names (p ∷ path) h in
    let same : p ≡ way.port = cc way.whole in
    ap (λ q. (port_at topology.ports q).from) same ∙ way.first.from

-- a valid path has a port
path_has : (topology : DeclaredTopology) → IsValidPath topology [] → ⊥
path_has topology valid = absurd (omega (arith, valid.some))

-- a valid path through some nodes has these nodes along it
by_names : (topology : DeclaredTopology) (names : List (List ℕ)) (path : List ℕ)
    → ports_of topology (file.path names) ≡ Some path → IsValidPath topology path → names_along topology path ≡ names
by_names topology names [] h valid = absurd (path_has topology valid)
by_names topology [] (p ∷ path) h valid = cc h
by_names topology (name ∷ names) (p ∷ path) h valid =
    let way = and_then (place_of name (names_of topology.nodes)) (λ a. ports_onward topology a names) (p ∷ path) h in
    let from : (port_at topology.ports p).from ≡ way.first = from_node topology way.first names p path way.next in
    let first : (node_at topology.nodes (port_at topology.ports p).from).name ≡ name =
    ap (λ n. (node_at topology.nodes n).name) from ∙ named topology name way.first way.is in
    rw (first, to_names topology way.first names (p ∷ path) way.next) refl

-- the valid path of a route is the one of the route
pub path_of_route : (topology : DeclaredTopology) (route : file.DeclaredRoute) (path : List ℕ)
    → ports_of topology route ≡ Some path → IsValidPath topology path → IsPathOf topology route path
path_of_route topology (file.path names) path h valid = by_names topology names path h valid
path_of_route topology (file.ends from to) path h valid =
    let one = and_then (place_of from (names_of topology.nodes))
    (λ a. option_and_then (λ b. shortest_of topology a b) (place_of to (names_of topology.nodes))) path h in
    let two = and_then (place_of to (names_of topology.nodes)) (λ b. shortest_of topology one.first b) path one.next in
    record { first = one.first; last = two.first; begins = one.is; ends = two.is; least = two.next }
