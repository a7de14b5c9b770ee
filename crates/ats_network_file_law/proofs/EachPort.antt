-- Each port has the stream and the flow of each table for each port.
use Rattle.std.proofs.Common.{◌≡◌, ◌∙◌, ℕ, ◌+◌, ◌<◌, List, [], ◌∷◌, ◌++◌, length, map}
use Rattle.std.proofs.Common.{None, drop, get_or, refl, sym, ap, subst, arith}
use Rattle.std.specs.List.{All, AllZip, enumerate_from, flat_map, range_with_len}
use Rattle.std.proofs.lemmas.List.Elements.{All-from_get_or, All-head, All-tail}
use Rattle.std.proofs.lemmas.List.FromFn.{get_or-enumerate_from, length-enumerate_from}
use Rattle.std.proofs.lemmas.Option.{same_Some}
use Rattle.ats_topology.specs.Faults.{topology_fault}
use Rattle.ats_topology.specs.Port.{no_port, port_at}
use Rattle.ats_topology.specs.Topology.{DeclaredTopology, topology_of}
use Rattle.ats_topology.specs.declared.link.Link.{Link}
use Rattle.ats_topology.specs.declared.node.Node.{Node}
use Rattle.ats_topology.specs.declared.port.Port.{Port}
use Rattle.ats_streams.specs.Branches.{leg_at, routes_of}
use Rattle.ats_streams.specs.declared.branch.Branch.{Branch}
use Rattle.ats_streams.specs.Flow.{DeclaredFlow}
use Rattle.ats_streams.specs.Stream.{DeclaredStream, classes_for}
use Rattle.ats_streams.proofs.BranchLemmas.{routes-length}
use Rattle.ats_network.specs.Network.{DeclaredNetwork}
use Rattle.ats_network.specs.Path.{IsValidPath}
use Rattle.ats_route_tree.proofs.Found.{have_valid}
use Rattle.ats_network_toml.specs.Document as file
use Rattle.ats_network_file.specs.LinkLocal.{flow_at, flows_at, route_along, stream_at, streams_at}
use Rattle.ats_network_file.specs.Reading.{links_of, nodes_of}
use Rattle.ats_network_file.specs.Routes.{ports_of}
use Rattle.ats_network_file_law.specs.EachPort.{EachPortHasItsSender, HasEachPort, IsFlowAt, IsStreamAt, at_each}
use Rattle.ats_network_file_law.specs.Entries.{IsFlowOf, IsNetworkOf, IsPathOf, IsStreamOf, declared_flows}
use Rattle.ats_network_file_law.specs.Entries.{declared_streams}
use Rattle.ats_network_file_law.proofs.Entries.{IsOver, each_entry_stands, network_over}
use Rattle.ats_network_file_law.proofs.LinkLocal.{along_port}
use Rattle.ats_network_file_law.proofs.WrittenPaths.{path_back}

-- the items behind the first ones, place by place
zip_drop : {A B : Type 0} (R : A → B → Type 0) (xs ys : List A) (zs : List B) → AllZip R (xs ++ ys) zs
    → AllZip R ys (drop (length xs) zs)
zip_drop R [] ys zs zipped = zipped
zip_drop R (x ∷ xs) ys [] zipped = absurd zipped
zip_drop R (x ∷ xs) ys (z ∷ zs) zipped = zip_drop R xs ys zs zipped.1

-- a port with its number
abbrev IsNumbered : List Port → ℕ × Port → Type 0
IsNumbered ports x = (x.0 < length ports) × ((x.0, port_at ports x.0) ≡ x)

all_numbered : (ports : List Port) → All (IsNumbered ports) (enumerate_from 0 ports)
all_numbered ports = All-from_get_or (IsNumbered ports) (enumerate_from 0 ports) (0, no_port)
    (λ i within. numbered i (omega (arith, within, length-enumerate_from 0 ports)))
  where
    numbered : (i : ℕ) → i < length ports → IsNumbered ports (get_or (enumerate_from 0 ports) i (0, no_port))
    numbered i within =
        let from_none : 0 + i ≡ i = omega arith in
        let at : get_or (enumerate_from 0 ports) i (0, no_port) ≡ (i, port_at ports i) =
        get_or-enumerate_from 0 ports i (0, no_port) within
        ∙ ap (λ (n : ℕ). let x : ℕ × Port = (n, port_at ports i) in x) from_none in
        subst (IsNumbered ports) (sym at) (within, refl)

-- the senders of one entry, and then those behind it
one_there : {D E S : Type 0} (R : D → S → Type 0) (Q : E × ℕ → S → Type 0) (make : ℕ × Port → D) (ports : List Port)
    (e : E) → ((p : ℕ) (s : S) → p < length ports → R (make (p, port_at ports p)) s → Q (e, p) s)
    → (xs : List (ℕ × Port)) (more : List D) (pairs : List (E × ℕ)) (ss : List S) → All (IsNumbered ports) xs
    → ((rest : List S) → AllZip R more rest → AllZip Q pairs rest) → AllZip R (map make xs ++ more) ss
    → AllZip Q (map {B = E × ℕ} (λ x. (e, x.0)) xs ++ pairs) ss
one_there R Q make ports e here [] more pairs ss numbered behind zipped = behind ss zipped
one_there R Q make ports e here (x ∷ xs) more pairs [] numbered behind zipped = absurd zipped
one_there R Q make ports e here (x ∷ xs) more pairs (s ∷ ss) numbered behind zipped =
    let one : IsNumbered ports x = All-head (IsNumbered ports) x xs numbered in (
      here x.0 s one.0 (subst (λ y. R (make y) s) (sym one.1) zipped.0),
      one_there R Q make ports e here xs more pairs ss (All-tail (IsNumbered ports) x xs numbered) behind zipped.1,
    )

-- the numbers of ports by each entry
pairs_are : {E : Type 0} (ports : List Port) (e : E)
    → map {B = E × ℕ} (λ x. (e, x.0)) (enumerate_from 0 ports)
    ≡ map {B = E × ℕ} (λ p. (e, p)) (range_with_len 0 (length ports))
pairs_are {E} ports e = from 0 ports
  where
    from : (n : ℕ) (ps : List Port)
        → map {B = E × ℕ} (λ x. (e, x.0)) (enumerate_from n ps)
        ≡ map {B = E × ℕ} (λ p. (e, p)) (range_with_len n (length ps))
    from n [] = refl
    from n (p ∷ ps) = ap (λ (ns : List (E × ℕ)). (e, n) ∷ ns) (from (n + 1) ps)

-- the senders of all entries
all_there : {D E S : Type 0} (R : D → S → Type 0) (Q : E × ℕ → S → Type 0) (make : E → ℕ × Port → D)
    (ports : List Port)
    → ((e : E) (p : ℕ) (s : S) → p < length ports → R (make e (p, port_at ports p)) s → Q (e, p) s)
    → (es : List E) (ss : List S) → AllZip R (flat_map (λ e. map (make e) (enumerate_from 0 ports)) es) ss
    → AllZip Q (at_each (length ports) es) ss
all_there R Q make ports here [] [] zipped = tt
all_there R Q make ports here [] (s ∷ ss) zipped = absurd zipped
all_there {D} {E} {S} R Q make ports here (e ∷ es) ss zipped =
    subst (λ (first : List (E × ℕ)). AllZip Q (first ++ at_each (length ports) es) ss) (pairs_are ports e)
    (one_there R Q (make e) ports e (here e) (enumerate_from 0 ports)
    (flat_map (λ e. map (make e) (enumerate_from 0 ports)) es) (at_each (length ports) es) ss (all_numbered ports)
    (λ rest zipped. all_there R Q make ports here es rest zipped) zipped)

-- what stands by one alone
record IsOnly {A B : Type 0} (R : A → B → Type 0) (x : A) (ys : List B) : Type 0 where
  value : B
  are : ys ≡ value ∷ []
  holds : R x value

only : {A B : Type 0} (R : A → B → Type 0) (x : A) (ys : List B) → AllZip R (x ∷ []) ys → IsOnly R x ys
only R x [] zipped = absurd zipped
only R x (y ∷ []) zipped = record { value = y; are = refl; holds = zipped.0 }
only R x (y ∷ z ∷ ys) zipped = absurd zipped.1

-- a single route is that of a trunk without branches
record IsTrunk (ports : List ℕ) (branches : List Branch) (route : List ℕ) : Type 0 where
  ports_are : ports ≡ route
  none : branches ≡ []

one_route : (ports : List ℕ) (branches : List Branch) (route : List ℕ) → routes_of ports branches ≡ route ∷ []
    → IsTrunk ports branches route
one_route ports [] route h =
    record { ports_are = ap (λ (rs : List (List ℕ)). leg_at rs 0) h; none = refl }
one_route ports (b ∷ branches) route h =
    absurd (omega (arith, routes-length ports (b ∷ branches), ap (λ (rs : List (List ℕ)). length rs) h))

-- the path along a port, found by the names of the nodes that it joins, is the port alone
port_alone : (nodes : List Node) (links : List Link) (port : ℕ) (path : List ℕ) → topology_fault nodes links ≡ None
    → port < length (topology_of nodes links).ports → IsValidPath (topology_of nodes links) path
    → IsPathOf (topology_of nodes links)
    (route_along (topology_of nodes links) (port_at (topology_of nodes links).ports port)) path
    → path ≡ port ∷ []
port_alone nodes links port path none within valid is =
    let topology : DeclaredTopology = topology_of nodes links in
    same_Some path (port ∷ []) (sym (path_back nodes links path none valid)
    ∙ ap (λ (names : List (List ℕ)). ports_of topology (file.path names)) is
    ∙ along_port nodes links port none within)

stream_here : (nodes : List Node) (links : List Link) → topology_fault nodes links ≡ None
    → (e : file.DeclaredLinkLocal) (p : ℕ) (s : DeclaredStream) → p < length (topology_of nodes links).ports
    → IsStreamOf (topology_of nodes links)
    (stream_at (topology_of nodes links) e (p, port_at (topology_of nodes links).ports p)) s
    → IsStreamAt (e, p) s
stream_here nodes links none e p s within is =
    let topology : DeclaredTopology = topology_of nodes links in
    let route : file.DeclaredRoute = route_along topology (port_at topology.ports p) in
    let one : IsOnly (IsPathOf topology) route (routes_of s.ports s.branches) =
    only (IsPathOf topology) route (routes_of s.ports s.branches) is.routes in
    let trunk : IsTrunk s.ports s.branches one.value = one_route s.ports s.branches one.value one.are in
    let valid : All (IsValidPath topology) (routes_of s.ports s.branches) =
    have_valid topology (routes_of s.ports s.branches) (record { ports = s.ports; branches = s.branches })
    (record { are = is.branches; tree = is.tree; routes_are = refl }) in
    let path : one.value ≡ p ∷ [] =
    port_alone nodes links p one.value none within
    (All-head (IsValidPath topology) one.value [] (subst (All (IsValidPath topology)) one.are valid)) one.holds in
    let ports : s.ports ≡ p ∷ [] = trunk.ports_are ∙ path in
    record {
      name = is.name;
      ports = ports;
      branches = trunk.none;
      classes = is.classes ∙ ap (λ (ps : List ℕ). classes_for (length ps) (e.class ∷ [])) ports;
      rate = is.rate;
      burst = is.burst;
      least = is.least;
      greatest = is.greatest;
      deadline = is.deadline;
      identity = is.identity;
    }

flow_here : (nodes : List Node) (links : List Link) → topology_fault nodes links ≡ None
    → (e : file.DeclaredLinkLocalFlow) (p : ℕ) (s : DeclaredFlow) → p < length (topology_of nodes links).ports
    → IsFlowOf (topology_of nodes links)
    (flow_at (topology_of nodes links) e (p, port_at (topology_of nodes links).ports p)) s
    → IsFlowAt (e, p) s
flow_here nodes links none e p s within is =
    record {
      name = is.name;
      path = port_alone nodes links p s.path none within is.valid is.route;
      greatest =
          is.greatest;
    }

-- of a network over nodes and links without a fault
each_stands : (d : file.DeclaredDocument) (network : DeclaredNetwork) → IsOver d network → IsNetworkOf d network
    → HasEachPort d network
each_stands d network over is =
    let topology : DeclaredTopology = topology_of (nodes_of d) (links_of d) in
    record {
      streams = subst (λ (t : DeclaredTopology). AllZip IsStreamAt (at_each (length t.ports) d.link_locals)
          (drop (length d.streams) network.streams)) (sym over.topology)
          (all_there (IsStreamOf topology) IsStreamAt (stream_at topology) topology.ports
          (stream_here (nodes_of d) (links_of d) over.none) d.link_locals (drop (length d.streams) network.streams)
          (zip_drop (IsStreamOf topology) d.streams (flat_map (streams_at topology) d.link_locals) network.streams
          (subst (λ (t : DeclaredTopology). AllZip (IsStreamOf t) (declared_streams t d) network.streams) over.topology
          is.streams)));
      flows = subst (λ (t : DeclaredTopology). AllZip IsFlowAt (at_each (length t.ports) d.link_local_flows)
          (drop (length d.flows) network.flows)) (sym over.topology)
          (all_there (IsFlowOf topology) IsFlowAt (flow_at topology) topology.ports
          (flow_here (nodes_of d) (links_of d) over.none) d.link_local_flows (drop (length d.flows) network.flows)
          (zip_drop (IsFlowOf topology) d.flows (flat_map (flows_at topology) d.link_local_flows) network.flows
          (subst (λ (t : DeclaredTopology). AllZip (IsFlowOf t) (declared_flows t d) network.flows) over.topology
          is.flows)));
    }

pub each_port_has_its_sender : EachPortHasItsSender
each_port_has_its_sender text document network tables declared =
    each_stands document network (network_over text document network tables declared)
    (each_entry_stands text document network tables declared)
