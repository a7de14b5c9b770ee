-- No two listeners of a stream go by one name.
use Rattle.std.proofs.Common.{◌≡◌, ◌≢◌, ℕ, zero, suc, ◌-◌, ◌<◌, ◌≤◌, inl, inr, List, [], ◌∷◌, length, map}
use Rattle.std.proofs.Common.{get_or, Option, Some, None, refl, sym, ap, subst, ◌∙◌, arith}
use Rattle.std.specs.List.{All, AllPairs, concat}
use Rattle.std.proofs.lemmas.Bool.{cases_lt}
use Rattle.std.proofs.lemmas.List.{get_or-map, length-map}
use Rattle.std.proofs.lemmas.Option.{none-some}
use Rattle.ats_facts.proofs.Lists.{all_left, all_unmapped, pairs_tail}
use Rattle.ats_num.specs.Places.{place_of as place_named}
use Rattle.ats_streams.specs.Branches.{leg_at, legs_of, routes_of}
use Rattle.ats_streams.specs.Stream.{DeclaredStream}
use Rattle.ats_streams.proofs.BranchLemmas.{legs-length, routes-length}
use Rattle.ats_topology.specs.Node.{AreApart, names_of}
use Rattle.ats_topology.specs.Port.{port_at}
use Rattle.ats_topology.specs.Topology.{DeclaredTopology, IsTopology, no_node, node_at}
use Rattle.ats_topology.specs.declared.node.Node.{Node}
use Rattle.ats_topology.specs.declared.port.Port.{Port}
use Rattle.ats_network.specs.Listeners.{Listener, listeners_of, station_of}
use Rattle.ats_network.specs.Path.{IsValidPath, nodes_along}
use Rattle.ats_network.specs.Sender.{Sender, flow_sender, stream_sender}
use Rattle.ats_network.specs.Senders.{IsSender}
use Rattle.ats_network.proofs.PathLemmas.{nodes_to}
use Rattle.ats_network.proofs.SenderLemmas.{each_is_sender}
use Rattle.ats_network.proofs.BridgeLemmas.{listener_within}
use Rattle.ats_tally.proofs.ListenerLemmas.{listener-is, listeners-length, name_by}
use Rattle.ats_trace.proofs.Legs.{concat-legs_of, place_is, place_of, place_within}
use Rattle.ats_route_law.proofs.Ends.{last_of, leg_some, route_ends}
use Rattle.ats_route_law.proofs.Places.{IsAt, at_one}
use Rattle.ats_listener_law.specs.Listeners.{NamesOfListenersDiffer}
use Rattle.ats_listener_law.proofs.Ends.{path_ends, station_is_at_the_end}

-- numbers that have different images are at one place where their images are the same
one_place : (f : ℕ → ℕ) (xs : List ℕ) (i j : ℕ) → AllPairs (λ a b. a ≢ b) (map f xs) → i < length xs → j < length xs
    → f (get_or xs i 0) ≡ f (get_or xs j 0) → i ≡ j
one_place f xs i j apart first second same =
    elim (cases_lt i j) as (λ _. i ≡ j) [
      | inl less ↦ absurd (apart i j 0 less (omega (arith, second, length-map xs f))
          (get_or-map f xs i 0 0 first ∙ same ∙ sym (get_or-map f xs j 0 0 second)))
      | inr most ↦ elim (cases_lt j i) as (λ _. i ≡ j) [
        | inl less ↦ absurd (apart j i 0 less (omega (arith, first, length-map xs f))
            (get_or-map f xs j 0 0 second ∙ sym same ∙ sym (get_or-map f xs i 0 0 first)))
        | inr least ↦ omega (arith, most, least)
      ]
    ]

-- the nodes to which ports lead are different where no node occurs twice along them
ends_apart : (ports : List Port) (numbers : List ℕ) → AllPairs (λ a b. a ≢ b) (nodes_along ports numbers)
    → AllPairs (λ a b. a ≢ b) (nodes_to ports numbers)
ends_apart ports [] apart = λ i j d below within. absurd (omega arith)
ends_apart ports (p ∷ numbers) apart =
    pairs_tail (λ m n. m ≢ n) (port_at ports p).from (nodes_to ports (p ∷ numbers)) apart

-- so legs whose last ports lead to one node are one
one_leg : (topology : DeclaredTopology) (s : Sender) (m n : ℕ) → IsSender topology s → m ≤ length s.branches
    → n ≤ length s.branches → (port_at topology.ports (last_of s m)).to ≡ (port_at topology.ports (last_of s n)).to
    → m ≡ n
one_leg topology s m n is in_m in_n same =
    (at_one legs (last_of s m) m (short m) n (short n) apart (at m in_m) there).0
  where
    legs : List (List ℕ)
    legs = legs_of s.ports s.branches

    short : ℕ → ℕ
    short k = length (leg_at legs k) - 1

    all : concat legs ≡ s.ports
    all = concat-legs_of s.ports s.branches is.branches

    apart : AllPairs (λ p q. p ≢ q) (concat legs)
    apart = subst (AllPairs (λ p q. p ≢ q)) (sym all) is.apart

    in_legs : (k : ℕ) → k ≤ length s.branches → k < length legs
    in_legs k within = omega (arith, within, legs-length 0 s.ports s.branches)

    in_leg : (k : ℕ) → k ≤ length s.branches → short k < length (leg_at legs k)
    in_leg k within = omega (arith, leg_some topology s k is within)

    at : (k : ℕ) → k ≤ length s.branches → IsAt legs (last_of s k) k (short k)
    at k within = record { in_legs = in_legs k within; in_leg = in_leg k within; is = refl }

    -- the place of a leg's last port
    place : ℕ → ℕ
    place k = place_of legs k (short k)

    placed : (k : ℕ) → k ≤ length s.branches → get_or (concat legs) (place k) 0 ≡ last_of s k
    placed k within = place_is legs k (short k) (in_legs k within) (in_leg k within)

    to : ℕ → ℕ
    to p = (port_at topology.ports p).to

    differ : AllPairs (λ a b. a ≢ b) (map to (concat legs))
    differ = subst (λ (l : List ℕ). AllPairs (λ a b. a ≢ b) (map to l)) (sym all)
        (ends_apart topology.ports s.ports is.tree.apart)

    one : place m ≡ place n
    one = one_place to (concat legs) (place m) (place n) differ
        (place_within legs m (short m) (in_legs m in_m) (in_leg m in_m))
        (place_within legs n (short n) (in_legs n in_n) (in_leg n in_n))
        (ap to (placed m in_m) ∙ same ∙ sym (ap to (placed n in_n)))

    ports_one : last_of s n ≡ last_of s m
    ports_one = sym (placed n in_n) ∙ ap (λ (k : ℕ). get_or (concat legs) k 0) (sym one) ∙ placed m in_m

    there : IsAt legs (last_of s m) n (short n)
    there = subst (λ (p : ℕ). IsAt legs p n (short n)) ports_one (at n in_n)

-- nodes of one name are one
some_same : (x y : ℕ) → Some x ≡ Some y → x ≡ y
some_same x y same = ap (λ (o : Option ℕ). elim o as (λ _. ℕ) [ None ↦ 0 | Some z ↦ z ]) same

same_text : (x y : List ℕ) → Some x ≡ Some y → x ≡ y
same_text x y same = ap (λ (o : Option (List ℕ)). elim o as (λ _. List ℕ) [ None ↦ [] | Some z ↦ z ]) same

one_node : (nodes : List Node) (a b : ℕ) → AreApart (names_of nodes) → a < length nodes → b < length nodes
    → (node_at nodes a).name ≡ (node_at nodes b).name → a ≡ b
one_node nodes a b apart in_a in_b same =
    some_same a b (sym (found a in_a) ∙ ap (λ (name : List ℕ). place_named name (names_of nodes)) same ∙ found b in_b)
  where
    found : (n : ℕ) → n < length nodes → place_named (node_at nodes n).name (names_of nodes) ≡ Some n
    found n within =
        ap (λ (name : List ℕ). place_named name (names_of nodes))
        (sym (get_or-map (λ (node : Node). node.name) nodes n no_node [] within))
        ∙ apart n (omega (arith, within, length-map nodes (λ (node : Node). node.name)))

-- so nodes of one name are at the end of one route
one_station : (topology : DeclaredTopology) (s : Sender) (m n : ℕ) → IsTopology topology → IsSender topology s
    → m ≤ length s.branches → n ≤ length s.branches
    → station_of topology (leg_at (routes_of s.ports s.branches) m)
    ≡ station_of topology (leg_at (routes_of s.ports s.branches) n)
    → m ≡ n
one_station topology s m n net is in_m in_n same =
    one_leg topology s m n is in_m in_n
    (sym (route_ends topology s m is in_m) ∙ path_ends topology (route m) (valid m in_m)
    ∙ one_node topology.nodes (valid m in_m).listener (valid n in_n).listener net.names
    (listener_within topology (route m) net (valid m in_m)) (listener_within topology (route n) net (valid n in_n))
    (sym (station_is_at_the_end topology (route m) (valid m in_m)) ∙ same
    ∙ station_is_at_the_end topology (route n) (valid n in_n))
    ∙ sym (path_ends topology (route n) (valid n in_n)) ∙ route_ends topology s n is in_n)
  where
    route : ℕ → List ℕ
    route k = leg_at (routes_of s.ports s.branches) k

    valid : (k : ℕ) → k ≤ length s.branches → IsValidPath topology (route k)
    valid k within = is.valid k [] (omega (arith, within, routes-length s.ports s.branches))

names_apart : (topology : DeclaredTopology) (s : Sender) (m n : ℕ) → IsTopology topology
    → IsSender topology s → m < n → n ≤ length s.branches
    → name_by topology m (leg_at (routes_of s.ports s.branches) m)
    ≢ name_by topology n (leg_at (routes_of s.ports s.branches) n)
names_apart topology s zero zero names is below within same = absurd (omega (arith, below))
names_apart topology s (suc m) zero names is below within same = absurd (omega (arith, below))
names_apart topology s zero (suc n) names is below within same =
    none-some (station_of topology (leg_at (routes_of s.ports s.branches) (suc n))) same
names_apart topology s (suc m) (suc n) names is below within same =
    let one : suc m ≡ suc n =
    one_station topology s (suc m) (suc n) names is (omega (arith, below, within)) within
    (same_text (station_of topology (leg_at (routes_of s.ports s.branches) (suc m)))
    (station_of topology (leg_at (routes_of s.ports s.branches) (suc n))) same) in
    omega (arith, one, below)

-- so the listeners of a stream have different names
listeners_apart : (topology : DeclaredTopology) (stream : DeclaredStream) → IsTopology topology
    → IsSender topology (stream_sender stream)
    → AllPairs (λ (a b : Listener). a.name ≢ b.name) (listeners_of topology stream)
listeners_apart topology stream names is i j d below within same =
    let last : j ≤ length stream.branches = omega (arith, within, listeners-length topology stream) in
    let named : (k : ℕ) → k ≤ length stream.branches → (get_or (listeners_of topology stream) k d).name
    ≡ name_by topology k (leg_at (routes_of stream.ports stream.branches) k) =
    λ k within. ap (λ (l : Listener). l.name) (listener-is topology stream k d within) in
    names_apart topology (stream_sender stream) i j names is below last
    (sym (named i (omega (arith, below, last))) ∙ same ∙ named j last)

pub names_of_listeners_differ : NamesOfListenersDiffer
names_of_listeners_differ network net n d within =
    let streams : List Sender = map stream_sender network.streams in
    let senders : All (IsSender network.topology) streams =
    all_left (IsSender network.topology) streams (map flow_sender network.flows) (each_is_sender network net) in
    listeners_apart network.topology (get_or network.streams n d) net.topology
    (all_unmapped (IsSender network.topology) stream_sender network.streams senders n d within)
