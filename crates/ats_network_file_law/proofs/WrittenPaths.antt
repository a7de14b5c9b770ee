-- A path is that of the names of the nodes along it.
use Rattle.std.proofs.Common.{◌≡◌, ◌∙◌, ℕ, zero, suc, ◌+◌, ◌<◌, ◌≤◌, ◌⊎◌, inl, inr, Bool, true, cond, eqb, List, []}
use Rattle.std.proofs.Common.{◌∷◌, ◌++◌, length, get_or, take, map, Option, Some, None, refl, sym, ap, subst, arith}
use Rattle.std.proofs.Common.{length-append}
use Rattle.std.specs.Prelude.{is_some, option_and_then}
use Rattle.std.specs.List.{All}
use Rattle.std.specs.Option.{option_map}
use Rattle.std.proofs.Math.Seq.{get_or-append_seam}
use Rattle.std.proofs.lemmas.Bool.{and_from, cases_lt, eq-eqb}
use Rattle.std.proofs.lemmas.List.{get_or_append_left, get_or_default, get_or-map, take_all}
use Rattle.ats_facts.proofs.Lists.{position_from-push}
use Rattle.ats_num.specs.Places.{place_of}
use Rattle.ats_topology.specs.Faults.{no_link, topology_fault}
use Rattle.ats_topology.specs.Node.{AreApart, names_of}
use Rattle.ats_topology.specs.Port.{goes, no_port, port_at, port_between}
use Rattle.ats_topology.specs.Topology.{DeclaredTopology, HasLawfulPorts, IsTopology, no_node, node_at, port_of}
use Rattle.ats_topology.specs.Topology.{ports_of, topology_of}
use Rattle.ats_topology.specs.Walks.{IsWalk}
use Rattle.ats_topology.specs.declared.link.Link.{Link}
use Rattle.ats_topology.specs.declared.node.Node.{Node}
use Rattle.ats_topology.specs.declared.port.Port.{Port}
use Rattle.ats_topology.proofs.Known.{IsOpen, all_open}
use Rattle.ats_topology.proofs.NameLemmas.{length-names_of}
use Rattle.ats_topology.proofs.Numbered.{first_absent, more_ports, second_absent}
use Rattle.ats_topology.proofs.Rules.{HasNoFault, no_fault, ports_are_lawful, topology_rules}
use Rattle.ats_network.specs.Path.{IsValidPath}
use Rattle.ats_network_toml.specs.Document as file
use Rattle.ats_network_file.specs.Routes as routes
use Rattle.ats_network_file.specs.Routes.{port_to, ports_onward}
use Rattle.ats_network_file_law.specs.Entries.{names_along}

-- each port is the one that is found between its nodes
abbrev IsOnce : List Port → Type 0
IsOnce ports = (k : ℕ) → k < length ports → port_between (port_at ports k).from (port_at ports k).to ports ≡ Some k

goes_itself : (port : Port) → goes port.from port.to port ≡ true
goes_itself port = and_from (eqb port.from port.from) (eqb port.to port.to) (eq-eqb port.from port.from refl)
    (eq-eqb port.to port.to refl)

-- so it is with one port more, where none goes between its nodes yet
once_more : (ports : List Port) (port : Port) → IsOnce ports → port_between port.from port.to ports ≡ None
    → IsOnce (ports ++ port ∷ [])
once_more ports port once absent = λ k below. by k below (cases_lt k (length ports))
  where
    all : List Port
    all = ports ++ port ∷ []

    by : (k : ℕ) → k < length all → (k < length ports) ⊎ (length ports ≤ k)
        → port_between (port_at all k).from (port_at all k).to all ≡ Some k
    by k below (inl inside) =
        let at : port_at all k ≡ port_at ports k = get_or_append_left ports (port ∷ []) no_port k inside in
        let test : Port → Bool = goes (port_at ports k).from (port_at ports k).to in
        ap (λ (q : Port). port_between q.from q.to all) at ∙ position_from-push test 0 ports port
        ∙ ap (λ (o : Option ℕ). cond (is_some o) o (cond (test port) (Some (0 + length ports)) None)) (once k inside)
    by k below (inr past) =
        let same : length ports ≡ k = omega (arith, past, below, length-append ports (port ∷ [])) in
        let at : port_at all (length ports) ≡ port = get_or-append_seam ports port [] no_port in
        subst (λ (n : ℕ). port_between (port_at all n).from (port_at all n).to all ≡ Some n) same
        (ap (λ (q : Port). port_between q.from q.to all) at
        ∙ position_from-push (goes port.from port.to) 0 ports port
        ∙ ap (λ (o : Option ℕ). cond (is_some o) o (cond (goes port.from port.to port) (Some (0 + length ports)) None))
        absent
        ∙ ap (λ (b : Bool). cond b (Some (0 + length ports)) None) (goes_itself port) ∙ ap Some (omega arith))

-- the ports of the first links
once_upto : (nodes : List Node) (links : List Link) → HasNoFault nodes links → AreApart (names_of nodes) → (i : ℕ)
    → i ≤ length links → IsOnce (ports_of nodes (take i links))
once_upto nodes links none apart zero below = λ k inside. absurd (omega (arith, inside))
once_upto nodes links none apart (suc i) below =
    let link : Link = get_or links i no_link in
    let within : i < length links = omega (arith, below) in
    let read : link ≡ get_or links i link = get_or_default links i no_link link within in
    let opens : All (IsOpen (names_of nodes)) links = all_open nodes links none.known none.differ in
    let open_here : IsOpen (names_of nodes) link = opens i no_link within in
    let before : List Port = ports_of nodes (take i links) in
    let there : Port = port_of nodes link link.a link.b in
    let one : IsOnce (before ++ there ∷ []) =
    once_more before there (once_upto nodes links none apart i (omega (arith, below)))
    (first_absent nodes apart links opens none.joined i link within read open_here) in
    let two : IsOnce ((before ++ there ∷ []) ++ port_of nodes link link.b link.a ∷ []) =
    once_more (before ++ there ∷ []) (port_of nodes link link.b link.a) one
    (second_absent nodes apart links opens none.joined i link within read open_here) in
    let next : i + 1 ≡ suc i = omega arith in
    subst (λ (n : ℕ). IsOnce (ports_of nodes (take n links))) next
    (subst IsOnce (more_ports nodes links i link within read) two)

-- what walks are found by: names, ports between them, and nodes of ports
record IsMapped (topology : DeclaredTopology) : Type 0 where
  apart : AreApart (names_of topology.nodes)
  once : IsOnce topology.ports
  lawful : HasLawfulPorts topology

is_mapped : (nodes : List Node) (links : List Link) → topology_fault nodes links ≡ None
    → IsMapped (topology_of nodes links)
is_mapped nodes links none =
    let is : IsTopology (topology_of nodes links) = topology_rules nodes links none in
    let whole : take (length links) links ≡ links = take_all (length links) links (omega arith) in
    record {
      apart = is.names;
      once = subst (λ (ls : List Link). IsOnce (ports_of nodes ls)) whole
          (once_upto nodes links (no_fault nodes links none) is.names (length links) (omega arith));
      lawful = ports_are_lawful (topology_of nodes links) is;
    }

-- the name of a node is found at it
named_back : (topology : DeclaredTopology) (n : ℕ) → IsMapped topology → n < length topology.nodes
    → place_of (node_at topology.nodes n).name (names_of topology.nodes) ≡ Some n
named_back topology n m within =
    let names : List (List ℕ) = names_of topology.nodes in
    let inside : n < length names = omega (arith, within, length-names_of topology.nodes) in
    ap (λ (name : List ℕ). place_of name names)
    (sym (get_or-map (λ (node : Node). node.name) topology.nodes n no_node [] within))
    ∙ m.apart n inside

-- the names of the nodes to which the ports of a walk lead are those of this walk
onward_back : (topology : DeclaredTopology) (a b : ℕ) (path : List ℕ) → IsMapped topology
    → IsWalk topology.ports a b path
    → ports_onward topology a (map (λ n. (node_at topology.nodes n).name)
    (map (λ q. (port_at topology.ports q).to) path)) ≡ Some path
onward_back topology a b [] m walk = refl
onward_back topology a b (p ∷ path) m walk =
    let port : Port = port_at topology.ports p in
    let named = named_back topology port.to m (m.lawful.each p no_port walk.0.within).between.to in
    let rest = onward_back topology port.to b path m walk.1 in
    let found : port_to topology a (node_at topology.nodes port.to).name ≡ Some p =
    ap (option_and_then (λ c. port_between a c topology.ports)) named
    ∙ ap (λ (n : ℕ). port_between n port.to topology.ports) (sym walk.0.from) ∙ m.once p walk.0.within in
    ap (option_and_then (λ q. option_map (λ ports. q ∷ ports) (ports_onward topology (port_at topology.ports q).to
    (map (λ n. (node_at topology.nodes n).name) (map (λ q. (port_at topology.ports q).to) path))))) found
    ∙ ap (option_map (λ ports. p ∷ ports)) rest

pub path_back : (nodes : List Node) (links : List Link) (path : List ℕ) → topology_fault nodes links ≡ None
    → IsValidPath (topology_of nodes links) path
    → routes.ports_of (topology_of nodes links) (file.path (names_along (topology_of nodes links) path)) ≡ Some path
path_back nodes links [] none valid = absurd (omega (arith, valid.some))
path_back nodes links (p ∷ path) none valid =
    let topology : DeclaredTopology = topology_of nodes links in
    let m : IsMapped topology = is_mapped nodes links none in
    let port : Port = port_at topology.ports p in
    let walk : IsWalk topology.ports port.from valid.listener (p ∷ path) =
    subst (λ (n : ℕ). IsWalk topology.ports n valid.listener (p ∷ path)) (sym valid.walk.0.from) valid.walk in
    ap (option_and_then (λ a. ports_onward topology a (map (λ n. (node_at topology.nodes n).name)
    (map (λ q. (port_at topology.ports q).to) (p ∷ path)))))
    (named_back topology port.from m (m.lawful.each p no_port walk.0.within).between.from)
    ∙ onward_back topology port.from valid.listener (p ∷ path) m walk
