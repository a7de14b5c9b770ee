-- Least walks from one node to different ones are the routes of a tree.
use Rattle.std.proofs.Common.{◌≡◌, ◌≢◌, ◌∙◌, ℕ, ◌<◌, ◌≤◌, Bool, true, false, cond, ◌||◌, eqb, List, [], ◌∷◌, length}
use Rattle.std.proofs.Common.{get_or, map, ◌-◌}
use Rattle.std.proofs.Common.{Option, Some, None, refl, sym, ap, subst, arith}
use Rattle.std.specs.Prelude.{option_and_then}
use Rattle.std.specs.Option.{option_map}
use Rattle.std.specs.List.{All, AllPairs, AllZip, list_any}
use Rattle.std.proofs.lemmas.Bool.{eqb-true}
use Rattle.std.proofs.lemmas.Bool.Decides.{Decides-eqb}
use Rattle.std.proofs.lemmas.List.{get_or-map, length-map}
use Rattle.std.proofs.lemmas.List.Elements.{All-cons, All-head, All-nil, All-tail}
use Rattle.std.proofs.lemmas.List.Kept.{AllPairs-cons}
use Rattle.std.proofs.lemmas.Map.Made.{IsDistinct-from_AllPairs}
use Rattle.std.proofs.lemmas.Map.Steps.{length-le_from_distinct_below}
use Rattle.std.proofs.lemmas.Option.{none-some, same_Some}
use Rattle.ats_facts.proofs.Lists.{pairs_head, pairs_tail}
use Rattle.ats_num.specs.Places.{place_of}
use Rattle.ats_topology.specs.Node.{names_of}
use Rattle.ats_topology.specs.Topology.{DeclaredTopology, IsStationAt, IsTopology}
use Rattle.ats_topology.specs.Walks.{IsLeastWalk}
use Rattle.ats_topology.proofs.Known.{name_there}
use Rattle.ats_topology.proofs.NameLemmas.{length-names_of}
use Rattle.ats_topology.specs.declared.port.Port.{Port}
use Rattle.ats_network.specs.Ends.{beginning_of}
use Rattle.ats_network.specs.Laws.{AreLeast, EndApart, MakesTree}
use Rattle.ats_network.specs.Listeners.{end_of}
use Rattle.ats_network.specs.Path.{IsValidPath}
use Rattle.ats_network.specs.Shortest.{shortest_of}
use Rattle.ats_network.proofs.EndsApart.{made_ends_apart, node_on, stations_end_apart, walk_ends}
use Rattle.ats_network.proofs.LeastTrees.{least_walks_make_a_tree}
use Rattle.ats_network.proofs.ValidRoutes.{walk_first}
use Rattle.ats_network.proofs.RouteLemmas.{shortest_least}
use Rattle.ats_route_tree.specs.Legs.{DeclaredLegs, HaveRoutes}
use Rattle.ats_route_tree.specs.Steps.{legs_found}
use Rattle.ats_route_tree.proofs.Found.{found_valid, legs_once}
use Rattle.ats_network_toml.specs.Document as file
use Rattle.ats_network_file.specs.Routes.{is_valid, path_of, paths_of, ports_of}
use Rattle.ats_network_file.proofs.Trees.{legs_of_paths}
use Rattle.ats_network_file.proofs.ValidPaths.{valid_passed}
use Rattle.ats_network_file_law.specs.Several.{EndsMakeATree, HaveLegs, IsStationNamed, StationsMakeATree}
use Rattle.ats_network_file_law.proofs.Paths.{and_then, mapped}

-- the path of a route is what its ports are, where they are valid
pub record IsPathAt (topology : DeclaredTopology) (route : file.DeclaredRoute) (path : List ℕ) : Type 0 where
  pub ports : ports_of topology route ≡ Some path
  pub valid : IsValidPath topology path

pub path_at : (topology : DeclaredTopology) (route : file.DeclaredRoute) (path : List ℕ)
    → path_of topology route ≡ Some path → IsPathAt topology route path
path_at topology route path h =
    let found = and_then (ports_of topology route) (λ ports. cond (is_valid topology ports) (Some ports) None) path h in
    by found.first found.is (is_valid topology found.first) refl found.next
  where
    by : (ports : List ℕ) → ports_of topology route ≡ Some ports → (b : Bool) → is_valid topology ports ≡ b
        → (let o : Option (List ℕ) = cond b (Some ports) None in o) ≡ Some path → IsPathAt topology route path
    by ports is true e g =
        let same : ports ≡ path = same_Some ports path g in
        record { ports = is ∙ ap Some same; valid = subst (IsValidPath topology) same (valid_passed topology ports e) }
    by ports is false e g = absurd (none-some path g)

-- a walk by its ends is the least from one to the other
record IsLeastTo (topology : DeclaredTopology) (from to : List ℕ) (path : List ℕ) : Type 0 where
  talker : ℕ
  listener : ℕ
  begins : place_of from (names_of topology.nodes) ≡ Some talker
  ends : place_of to (names_of topology.nodes) ≡ Some listener
  least : IsLeastWalk topology.ports talker listener path

least_to : (topology : DeclaredTopology) (from to path : List ℕ) → IsTopology topology
    → ports_of topology (file.ends from to) ≡ Some path → IsLeastTo topology from to path
least_to topology from to path is h =
    let names : List (List ℕ) = names_of topology.nodes in
    let one = and_then (place_of from names)
    (λ a. option_and_then (λ b. shortest_of topology a b) (place_of to names)) path h in
    let two = and_then (place_of to names) (λ b. shortest_of topology one.first b) path one.next in
    let long : length names ≡ length topology.nodes = length-names_of topology.nodes in
    let a : one.first < length topology.nodes = omega (arith, (name_there names from one.first one.is).0, long) in
    let b : two.first < length topology.nodes = omega (arith, (name_there names to two.first two.is).0, long) in
    record {
      talker = one.first;
      listener = two.first;
      begins = one.is;
      ends = two.is;
      least = (shortest_least topology one.first two.first is a b).least path two.next;
    }

-- the nodes to which walks lead, and these are least
record AreFound (topology : DeclaredTopology) (talker : ℕ) (to : List (List ℕ)) (paths : List (List ℕ)) : Type 0 where
  listeners : List ℕ
  named : AllZip (λ name n. place_of name (names_of topology.nodes) ≡ Some n) to listeners
  least : AreLeast topology talker listeners paths

all_least : (topology : DeclaredTopology) (from : List ℕ) (talker : ℕ) → IsTopology topology
    → place_of from (names_of topology.nodes) ≡ Some talker → (to paths : List (List ℕ))
    → paths_of topology (map (file.ends from) to) ≡ Some paths → AreFound topology talker to paths
all_least topology from talker is begins [] paths h =
    subst (AreFound topology talker []) (same_Some [] paths h) (record { listeners = []; named = tt; least = tt })
all_least topology from talker is begins (name ∷ to) paths h =
    let first = and_then (path_of topology (file.ends from name))
    (λ path. option_map (λ ps. path ∷ ps) (paths_of topology (map (file.ends from) to))) paths h in
    let rest = mapped (λ ps. first.first ∷ ps) (paths_of topology (map (file.ends from) to)) paths first.next in
    let more : AreFound topology talker to rest.value =
    all_least topology from talker is begins to rest.value rest.is in
    let one : IsPathAt topology (file.ends from name) first.first =
    path_at topology (file.ends from name) first.first first.is in
    let walk : IsLeastTo topology from name first.first = least_to topology from name first.first is one.ports in
    let same : walk.talker ≡ talker = same_Some walk.talker talker (sym walk.begins ∙ begins) in
    let least : IsLeastWalk topology.ports talker walk.listener first.first =
    subst (λ (n : ℕ). IsLeastWalk topology.ports n walk.listener first.first) same walk.least in
    subst (AreFound topology talker (name ∷ to)) rest.made (record {
      listeners = walk.listener ∷ more.listeners;
      named = (walk.ends, more.named);
      least = ((least, one.valid), more.least);
    })

-- the listeners are the ends of the walks, and each walk is a valid path from the talker
ends_listed : (topology : DeclaredTopology) (talker : ℕ) (listeners : List ℕ) (paths : List (List ℕ))
    → AreLeast topology talker listeners paths → map (end_of topology.ports) paths ≡ listeners
ends_listed topology talker [] [] least = refl
ends_listed topology talker [] (r ∷ paths) least = absurd least
ends_listed topology talker (l ∷ listeners) [] least = absurd least
ends_listed topology talker (l ∷ listeners) (r ∷ paths) least =
    ap (λ (n : ℕ). n ∷ map (end_of topology.ports) paths)
    (walk_ends topology.ports talker l r least.0.0.walk_is least.0.1.some)
    ∙ ap (λ (ns : List ℕ). l ∷ ns) (ends_listed topology talker listeners paths least.1)

all_valid : (topology : DeclaredTopology) (talker : ℕ) (listeners : List ℕ) (paths : List (List ℕ))
    → AreLeast topology talker listeners paths → All (IsValidPath topology) paths
all_valid topology talker [] [] least = All-nil (IsValidPath topology)
all_valid topology talker [] (r ∷ paths) least = absurd least
all_valid topology talker (l ∷ listeners) [] least = absurd least
all_valid topology talker (l ∷ listeners) (r ∷ paths) least =
    All-cons (IsValidPath topology) r paths least.0.1 (all_valid topology talker listeners paths least.1)

abbrev BeginsAt : DeclaredTopology → ℕ → List ℕ → Type 0
BeginsAt topology talker path = beginning_of topology.ports path ≡ talker

all_begin : (topology : DeclaredTopology) (talker : ℕ) (listeners : List ℕ) (paths : List (List ℕ))
    → AreLeast topology talker listeners paths → All (BeginsAt topology talker) paths
all_begin topology talker [] [] least = All-nil (BeginsAt topology talker)
all_begin topology talker [] (r ∷ paths) least = absurd least
all_begin topology talker (l ∷ listeners) [] least = absurd least
all_begin topology talker (l ∷ listeners) (r ∷ paths) least =
    All-cons (BeginsAt topology talker) r paths
    (walk_first topology.ports talker l r least.0.0.walk_is least.0.1.some)
    (all_begin topology talker listeners paths least.1)

-- different names are those of different nodes
other_node : (topology : DeclaredTopology) (name : List ℕ) (n : ℕ) (to : List (List ℕ)) (listeners : List ℕ)
    → place_of name (names_of topology.nodes) ≡ Some n
    → AllZip (λ name n. place_of name (names_of topology.nodes) ≡ Some n) to listeners → All (λ other. name ≢ other) to
    → All (λ (m : ℕ). n ≢ m) listeners
other_node topology name n [] [] at named apart = All-nil (λ (m : ℕ). n ≢ m)
other_node topology name n [] (m ∷ listeners) at named apart = absurd named
other_node topology name n (other ∷ to) [] at named apart = absurd named
other_node topology name n (other ∷ to) (m ∷ listeners) at named apart =
    let names : List (List ℕ) = names_of topology.nodes in
    let differ : name ≢ other = All-head (λ (o : List ℕ). name ≢ o) other to apart in
    All-cons (λ (k : ℕ). n ≢ k) m listeners
    (λ same. differ ((name_there names name n at).1 ∙ ap (λ (k : ℕ). get_or names k []) same
    ∙ sym (name_there names other m named.0).1))
    (other_node topology name n to listeners at named.1 (All-tail (λ (o : List ℕ). name ≢ o) other to apart))

nodes_apart : (topology : DeclaredTopology) (to : List (List ℕ)) (listeners : List ℕ)
    → AllZip (λ name n. place_of name (names_of topology.nodes) ≡ Some n) to listeners
    → AllPairs (λ a b. a ≢ b) to → AllPairs (λ (a b : ℕ). a ≢ b) listeners
nodes_apart topology [] [] named apart = λ i j d order within. absurd (omega (arith, within))
nodes_apart topology [] (n ∷ listeners) named apart = absurd named
nodes_apart topology (name ∷ to) [] named apart = absurd named
nodes_apart topology (name ∷ to) (n ∷ listeners) named apart =
    AllPairs-cons (λ (a b : ℕ). a ≢ b) n listeners
    (other_node topology name n to listeners named.0 named.1 (pairs_head (λ a b. a ≢ b) name to apart))
    (nodes_apart topology to listeners named.1 (pairs_tail (λ a b. a ≢ b) name to apart))

-- they are nodes, so there are not many
all_below : (topology : DeclaredTopology) (to : List (List ℕ)) (listeners : List ℕ)
    → AllZip (λ name n. place_of name (names_of topology.nodes) ≡ Some n) to listeners → (q : ℕ)
    → list_any (eqb q) listeners ≡ true → q < length topology.nodes
all_below topology [] [] named q h = cc h
all_below topology [] (n ∷ listeners) named q h = absurd named
all_below topology (name ∷ to) [] named q h = absurd named
all_below topology (name ∷ to) (n ∷ listeners) named q h =
    by (eqb q n) refl h (all_below topology to listeners named.1 q)
  where
    by : (b : Bool) → eqb q n ≡ b → (b || list_any (eqb q) listeners) ≡ true
        → (list_any (eqb q) listeners ≡ true → q < length topology.nodes) → q < length topology.nodes
    by true e g rest =
        let same : q ≡ n = eqb-true q n e in
        omega (arith, same, (name_there (names_of topology.nodes) name n named.0).0, length-names_of topology.nodes)
    by false e g rest = rest g

few : (topology : DeclaredTopology) (to : List (List ℕ)) (listeners : List ℕ) → IsTopology topology
    → AllZip (λ name n. place_of name (names_of topology.nodes) ≡ Some n) to listeners
    → AllPairs (λ (a b : ℕ). a ≢ b) listeners → length listeners ≤ 65536
few topology to listeners is named apart =
    let most : length listeners ≤ length topology.nodes =
    length-le_from_distinct_below listeners (length topology.nodes)
    (IsDistinct-from_AllPairs Decides-eqb listeners apart) (all_below topology to listeners named) in
    omega (arith, most, is.few_nodes)

-- where no walk ends at a node of another one, the ends differ
ends_differ : (topology : DeclaredTopology) (paths : List (List ℕ)) → All (IsValidPath topology) paths
    → EndApart topology paths → AllPairs (λ (a b : ℕ). a ≢ b) (map (end_of topology.ports) paths)
ends_differ topology paths valid apart i j d below within same =
    let P : List Port = topology.ports in
    let long : length (map (end_of P) paths) ≡ length paths = length-map paths (end_of P) in
    let in_j : j < length paths = omega (arith, within, long) in
    let in_i : i < length paths = omega (arith, below, in_j) in
    let path : List ℕ = get_or paths i [] in
    let one : IsValidPath topology path = valid i [] in_i in
    node_on (λ (node : ℕ). node ≢ end_of P (get_or paths j [])) P path (length path - 1) (omega (arith, one.some))
    (apart j i in_j in_i (λ e. omega (arith, e, below)))
    (sym (get_or-map (end_of P) paths i [] d in_i) ∙ same ∙ get_or-map (end_of P) paths j [] d in_j)

-- the legs of the tree that is made are found
made : (topology : DeclaredTopology) (routes : List file.DeclaredRoute) (paths : List (List ℕ))
    → paths_of topology routes ≡ Some paths → MakesTree topology paths → HaveLegs topology routes
made topology routes paths are tree =
    let legs : DeclaredLegs = record { ports = tree.ports; branches = tree.branches } in
    let have : HaveRoutes topology paths legs =
    record { are = tree.are; tree = tree.tree; routes_are = tree.routes_are } in
    record {
      legs = legs;
      are = legs_of_paths topology routes ∙ ap (option_and_then (legs_found topology)) are
          ∙ legs_once topology paths legs have;
    }

-- the walks of a list that is not empty
tree_of : (topology : DeclaredTopology) (talker : ℕ) (listeners : List ℕ) (paths : List (List ℕ))
    → AreLeast topology talker listeners paths → EndApart topology paths → length listeners ≤ 65536
    → 1 ≤ length listeners → MakesTree topology paths
tree_of topology talker [] paths least apart most some = absurd (omega (arith, some))
tree_of topology talker (l ∷ listeners) [] least apart most some = absurd least
tree_of topology talker (l ∷ listeners) (r ∷ walks) least apart most some =
    (least_walks_make_a_tree topology talker l listeners r walks least most).1 apart

-- and the other way round
apart_of : (topology : DeclaredTopology) (routes : List file.DeclaredRoute) (paths : List (List ℕ))
    → paths_of topology routes ≡ Some paths → All (IsValidPath topology) paths → HaveLegs topology routes
    → EndApart topology paths
apart_of topology routes paths are valid have =
    let legs : DeclaredLegs = have.legs in
    let found : legs_found topology paths ≡ Some legs =
    sym (legs_of_paths topology routes ∙ ap (option_and_then (legs_found topology)) are) ∙ have.are in
    let tree : HaveRoutes topology paths legs = found_valid topology paths legs valid found in
    made_ends_apart topology legs.ports legs.branches paths tree.are tree.tree tree.routes_are

-- stations by their names
all_stations : (topology : DeclaredTopology) (to : List (List ℕ)) (listeners : List ℕ)
    → AllZip (λ name n. place_of name (names_of topology.nodes) ≡ Some n) to listeners
    → All (IsStationNamed topology) to → All (IsStationAt topology) listeners
all_stations topology [] [] named stations = All-nil (IsStationAt topology)
all_stations topology [] (n ∷ listeners) named stations = absurd named
all_stations topology (name ∷ to) [] named stations = absurd named
all_stations topology (name ∷ to) (n ∷ listeners) named stations =
    All-cons (IsStationAt topology) n listeners
    (All-head (IsStationNamed topology) name to stations n named.0)
    (all_stations topology to listeners named.1 (All-tail (IsStationNamed topology) name to stations))

zipped_some : (topology : DeclaredTopology) (name : List ℕ) (to : List (List ℕ)) (listeners : List ℕ)
    → AllZip (λ name n. place_of name (names_of topology.nodes) ≡ Some n) (name ∷ to) listeners
    → 1 ≤ length listeners
zipped_some topology name to [] named = absurd named
zipped_some topology name to (n ∷ listeners) named = omega arith

-- the walks of routes by their ends
record AreWalks (topology : DeclaredTopology) (to : List (List ℕ)) (paths : List (List ℕ)) : Type 0 where
  talker : ℕ
  found : AreFound topology talker to paths

walks_of : (topology : DeclaredTopology) (from to : List ℕ) (others : List (List ℕ)) (paths : List (List ℕ))
    → IsTopology topology → paths_of topology (map (file.ends from) (to ∷ others)) ≡ Some paths
    → AreWalks topology (to ∷ others) paths
walks_of topology from to others paths is are =
    let first = and_then (path_of topology (file.ends from to))
    (λ path. option_map (λ ps. path ∷ ps) (paths_of topology (map (file.ends from) others))) paths are in
    let one : IsPathAt topology (file.ends from to) first.first =
    path_at topology (file.ends from to) first.first first.is in
    let walk : IsLeastTo topology from to first.first = least_to topology from to first.first is one.ports in
    record {
      talker = walk.talker;
      found = all_least topology from walk.talker is walk.begins (to ∷ others) paths are;
    }

pub ends_make_a_tree : EndsMakeATree
ends_make_a_tree topology from to others paths is are = (
  apart_of topology (map (file.ends from) (to ∷ others)) paths are valid,
  λ apart. made topology (map (file.ends from) (to ∷ others)) paths are
      (tree_of topology walks.talker found.listeners paths found.least apart
      (few topology (to ∷ others) found.listeners is found.named
      (subst (AllPairs (λ (a b : ℕ). a ≢ b))
      (ends_listed topology walks.talker found.listeners paths found.least)
      (ends_differ topology paths valid apart)))
      (zipped_some topology to others found.listeners found.named)),
)
  where
    walks : AreWalks topology (to ∷ others) paths
    walks = walks_of topology from to others paths is are

    found : AreFound topology walks.talker (to ∷ others) paths
    found = walks.found

    valid : All (IsValidPath topology) paths
    valid = all_valid topology walks.talker found.listeners paths found.least

pub stations_make_a_tree : StationsMakeATree
stations_make_a_tree topology from to others paths is apart stations are =
    (ends_make_a_tree topology from to others paths is are).1
    (stations_end_apart topology walks.talker paths is
    (all_valid topology walks.talker found.listeners paths found.least)
    (all_begin topology walks.talker found.listeners paths found.least) at_stations differ)
  where
    P : List Port
    P = topology.ports

    walks : AreWalks topology (to ∷ others) paths
    walks = walks_of topology from to others paths is are

    found : AreFound topology walks.talker (to ∷ others) paths
    found = walks.found

    listed : map (end_of topology.ports) paths ≡ found.listeners
    listed = ends_listed topology walks.talker found.listeners paths found.least

    long : length (map (end_of topology.ports) paths) ≡ length paths
    long = length-map paths (end_of P)

    each : All (IsStationAt topology) (map (end_of topology.ports) paths)
    each = subst (All (IsStationAt topology)) (sym listed)
        (all_stations topology (to ∷ others) found.listeners found.named stations)

    at_stations : All (λ (path : List ℕ). IsStationAt topology (end_of topology.ports path)) paths
    at_stations k d h = subst (IsStationAt topology) (get_or-map (end_of P) paths k d 0 h)
        (each k 0 (omega (arith, h, long)))

    differ : AllPairs (λ (p q : List ℕ). end_of topology.ports p ≢ end_of topology.ports q) paths
    differ i j d below within same =
        subst (AllPairs (λ (a b : ℕ). a ≢ b)) (sym listed)
        (nodes_apart topology (to ∷ others) found.listeners found.named apart) i j 0 below (omega (arith, within, long))
        (get_or-map (end_of P) paths i d 0 (omega (arith, below, within)) ∙ same
        ∙ sym (get_or-map (end_of P) paths j d 0 within))
