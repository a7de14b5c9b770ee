-- No two ports of a topology go between the same nodes.
use Rattle.std.proofs.Common.{◌≡◌, ◌∙◌, ℕ, zero, suc, ◌+◌, ◌*◌, ◌<◌, List, [], ◌∷◌, ◌++◌, get_or, length, take, None}
use Rattle.std.proofs.Common.{Some, refl, ap, arith, ◌⊎◌, inl, inr}
use Rattle.std.specs.List.{All, position_from}
use Rattle.std.proofs.lemmas.Bool.{eq-eqb}
use Rattle.std.proofs.lemmas.List.{get_or_default, take_more}
use Rattle.ats_facts.proofs.Options.{option_or-none}
use Rattle.ats_topology.specs.Faults.{topology_fault, node_twice, link_twice, no_link, self_link, unknown_node}
use Rattle.ats_topology.specs.Node.{names_of}
use Rattle.ats_topology.specs.Port.{goes, no_port, port_at, port_between}
use Rattle.ats_topology.specs.Topology.{IsTopology, HasLawfulPorts, link_at, port_of, ports_of, topology_of}
use Rattle.ats_topology.specs.declared.node.Node.{Node}
use Rattle.ats_topology.specs.declared.link.Link.{Link}
use Rattle.ats_topology.specs.declared.port.Port.{Port}
use Rattle.ats_topology.proofs.Known.{IsOpen, all_open}
use Rattle.ats_topology.proofs.Numbered.{first_absent, second_absent}
use Rattle.ats_topology.proofs.PositionLemmas.{position_from-some}
use Rattle.ats_topology.proofs.Rules.{topology_rules, ports_are_lawful}

-- the faults that are asked for here
record AreJoined (nodes : List Node) (links : List Link) : Type 0 where
  joined : link_twice links ≡ None
  opens : All (IsOpen (names_of nodes)) links

are_joined : (nodes : List Node) (links : List Link) → topology_fault nodes links ≡ None → AreJoined nodes links
are_joined nodes links h =
    let one = option_or-none (node_twice nodes) _ h in
    let two = option_or-none (link_twice links) _ one.1 in
    let three = option_or-none (self_link links) _ two.1 in
    let four = option_or-none (unknown_node nodes links) _ three.1 in
    record { joined = two.0; opens = all_open nodes links four.0 three.0 }

-- the ports of the first links are the first ports, two to a link
take_ports : (nodes : List Node) (links : List Link) (i n : ℕ) → n ≡ 2 * i
    → take n (ports_of nodes links) ≡ ports_of nodes (take i links)
take_ports nodes links zero zero e = refl
take_ports nodes links zero (suc n) e = absurd (omega arith)
take_ports nodes [] (suc i) zero e = refl
take_ports nodes [] (suc i) (suc n) e = refl
take_ports nodes (link ∷ links) (suc i) zero e = absurd (omega arith)
take_ports nodes (link ∷ links) (suc i) (suc zero) e = absurd (omega arith)
take_ports nodes (link ∷ links) (suc i) (suc (suc n)) e =
    ap (λ ports. port_of nodes link link.a link.b ∷ port_of nodes link link.b link.a ∷ ports)
    (take_ports nodes links i n (omega arith))

-- a number is even or odd
record IsHalved (n : ℕ) : Type 0 where
  half : ℕ
  is : (n ≡ 2 * half) ⊎ (n ≡ 2 * half + 1)

halved : (n : ℕ) → IsHalved n
halved zero = record { half = 0; is = inl (omega arith) }
halved (suc zero) = record { half = 0; is = inr (omega arith) }
halved (suc (suc n)) = more (halved n)
  where
    next : (half : ℕ) → (n ≡ 2 * half) ⊎ (n ≡ 2 * half + 1)
        → (suc (suc n) ≡ 2 * suc half) ⊎ (suc (suc n) ≡ 2 * suc half + 1)
    next half (inl e) = inl (omega arith)
    next half (inr e) = inr (omega arith)

    more : IsHalved n → IsHalved (suc (suc n))
    more h = record { half = suc h.half; is = next h.half h.is }

-- the ports before a port go between other nodes
Before : List Port → ℕ → Type 0
Before ports p = position_from (goes (port_at ports p).from (port_at ports p).to) 0 (take p ports) ≡ None

before : (nodes : List Node) (links : List Link) → topology_fault nodes links ≡ None → (p : ℕ)
    → p < length (ports_of nodes links) → Before (ports_of nodes links) p
unfolding Before
before nodes links sound p within = by (halved p)
  where
    rules : IsTopology (topology_of nodes links)
    rules = topology_rules nodes links sound

    kept : HasLawfulPorts (topology_of nodes links)
    kept = ports_are_lawful (topology_of nodes links) rules

    joined : AreJoined nodes links
    joined = are_joined nodes links sound

    ports : List Port
    ports = ports_of nodes links

    first : (i : ℕ) → i < length links → p ≡ 2 * i → position_from (goes (port_at (ports_of nodes links) p).from
        (port_at (ports_of nodes links) p).to) 0 (take p (ports_of nodes links)) ≡ None
    first i small e =
        let link : Link = link_at links i in
        let read : link ≡ get_or links i link = get_or_default links i no_link link small in
        let here : port_at (ports_of nodes links) p ≡ port_of nodes link link.a link.b =
        ap (port_at (ports_of nodes links)) e ∙ (kept.link_ports i small).there in
        rw (here, take_ports nodes links i p e) (first_absent nodes rules.names links joined.opens joined.joined i link
        small read (joined.opens i no_link small))

    second : (i : ℕ) → i < length links → p ≡ 2 * i + 1 → position_from (goes (port_at (ports_of nodes links) p).from
        (port_at (ports_of nodes links) p).to) 0 (take p (ports_of nodes links)) ≡ None
    second i small e =
        let link : Link = link_at links i in
        let read : link ≡ get_or links i link = get_or_default links i no_link link small in
        let here : port_at (ports_of nodes links) p ≡ port_of nodes link link.b link.a =
        ap (port_at (ports_of nodes links)) e ∙ (kept.link_ports i small).back in
        let even : 2 * i < length (ports_of nodes links) = omega arith in
        let cut : take p (ports_of nodes links)
        ≡ ports_of nodes (take i links) ++ port_of nodes link link.a link.b ∷ [] =
        ap (λ n. take n (ports_of nodes links)) e ∙ take_more (ports_of nodes links) (2 * i) no_port even
        ∙ ap (λ front. front ++ port_at (ports_of nodes links) (2 * i) ∷ []) (take_ports nodes links i (2 * i) refl)
        ∙ ap (λ port. ports_of nodes (take i links) ++ port ∷ []) (kept.link_ports i small).there in
        rw (here, cut) (second_absent nodes rules.names links joined.opens joined.joined i link small read
        (joined.opens i no_link small))

    by : IsHalved p → position_from (goes (port_at (ports_of nodes links) p).from (port_at (ports_of nodes links) p).to)
        0 (take p (ports_of nodes links)) ≡ None
    by h = half h.half h.is
      where
        half : (i : ℕ) → (p ≡ 2 * i) ⊎ (p ≡ 2 * i + 1) → position_from (goes (port_at (ports_of nodes links) p).from
            (port_at (ports_of nodes links) p).to) 0 (take p (ports_of nodes links)) ≡ None
        half i (inl e) = first i (omega (arith, kept.two_each)) e
        half i (inr e) = second i (omega (arith, kept.two_each)) e

-- each port is the one between its nodes
pub between_ends : (nodes : List Node) (links : List Link) → topology_fault nodes links ≡ None → (p : ℕ)
    → p < length (ports_of nodes links)
    → port_between (port_at (ports_of nodes links) p).from (port_at (ports_of nodes links) p).to (ports_of nodes links)
    ≡ Some p
unfolding Before
between_ends nodes links sound p within =
    position_from-some (goes (port_at (ports_of nodes links) p).from (port_at (ports_of nodes links) p).to) 0
    (ports_of nodes links) p no_port
    (before nodes links sound p within) within
    (rw (
      eq-eqb (port_at (ports_of nodes links) p).from (port_at (ports_of nodes links) p).from refl,
      eq-eqb (port_at (ports_of nodes links) p).to (port_at (ports_of nodes links) p).to refl,
    ) refl)
    ∙ ap Some (omega arith)
