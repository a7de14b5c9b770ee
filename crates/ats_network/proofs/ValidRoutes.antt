-- Each route of a tree is a valid path.
use Rattle.std.proofs.Common.{◌≡◌, ◌≢◌, ℕ, zero, suc, ◌+◌, ◌-◌, ◌<◌, ◌≤◌, inl, inr, List, [], ◌∷◌, ◌++◌, length}
use Rattle.std.proofs.Common.{take, drop}
use Rattle.std.proofs.Common.{get_or, refl, sym, ap, subst, ◌∙◌, arith, length-append, length-take}
use Rattle.std.specs.List.{All, AllPairs}
use Rattle.std.proofs.lemmas.Bool.{cases_lt, cases_eq}
use Rattle.std.proofs.lemmas.List.{get_or-map, get_or-take, length-map}
use Rattle.std.proofs.lemmas.List.Kept.{AllPairs-cons}
use Rattle.ats_facts.proofs.Lists.{pairs_head, pairs_tail}
use Rattle.ats_streams.specs.Branches.{AreBranches, BeginsEarlier, Ascend, first_from, leads_of, leg_at, legs_of}
use Rattle.ats_streams.specs.Branches.{no_branch}
use Rattle.ats_streams.specs.declared.branch.Branch.{Branch}
use Rattle.ats_streams.proofs.BranchLemmas.{IsPlaced, begins_at, lead_of, lead_of_trunk, leg_between}
use Rattle.ats_streams.proofs.BranchLemmas.{leg_last, placed, route-at, routes-length}
use Rattle.ats_streams.proofs.Places.{branch_some}
use Rattle.ats_topology.specs.Port.{port_at}
use Rattle.ats_topology.specs.Topology.{DeclaredTopology}
use Rattle.ats_topology.specs.Walks.{IsWalk}
use Rattle.ats_topology.specs.declared.port.Port.{Port}
use Rattle.ats_network.specs.Laws.{EachRouteIsAPath}
use Rattle.ats_network.specs.Path.{IsBranch, IsTree, IsValidPath, node_of_branch, nodes_along}
use Rattle.ats_network.proofs.Parts.{IsPart, part_all, part_more, part_next, part_pairs, part_rest, part_same}
use Rattle.ats_network.proofs.Parts.{part_take}
use Rattle.ats_network.proofs.PathLemmas.{nodes_to}

-- two walks, the second of which begins where the first ends, are one
pub walk_join : (ports : List Port) (a b c : ℕ) (xs ys : List ℕ) → IsWalk ports a b xs → IsWalk ports b c ys
    → IsWalk ports a c (xs ++ ys)
walk_join ports a b c [] ys first second = subst (λ (n : ℕ). IsWalk ports n c ys) (sym first) second
walk_join ports a b c (p ∷ xs) ys first second =
    (first.0, walk_join ports (port_at ports p).to b c xs ys first.1 second)

-- the first ports of a walk lead to the node that the next one leaves
walk_front : (ports : List Port) (a b : ℕ) (path : List ℕ) (hop : ℕ) → IsWalk ports a b path → hop < length path
    → IsWalk ports a (port_at ports (get_or path hop 0)).from (take hop path)
walk_front ports a b [] hop walk within = absurd (omega arith)
walk_front ports a b (p ∷ path) zero walk within = sym walk.0.from
walk_front ports a b (p ∷ path) (suc hop) walk within =
    (walk.0, walk_front ports (port_at ports p).to b path hop walk.1 (omega arith))

-- the first port of a walk leaves the node where it begins
pub walk_first : (ports : List Port) (a b : ℕ) (path : List ℕ) → IsWalk ports a b path → 0 < length path
    → (port_at ports (get_or path 0 0)).from ≡ a
walk_first ports a b [] walk some = absurd (omega arith)
walk_first ports a b (p ∷ path) walk some = walk.0.from

-- the node where a leg begins
abbrev start_of : List Port → List (List ℕ) → List Branch → ℕ → ℕ → ℕ
start_of ports legs branches talker zero = talker
start_of ports legs branches talker (suc n) = node_of_branch ports legs (get_or branches n no_branch)

-- a leg leads from there to its end
record Leads (topology : DeclaredTopology) (start : ℕ) (leg : List ℕ) : Type 0 where
  listener : ℕ
  walk : IsWalk topology.ports start listener leg

leg_leads : (topology : DeclaredTopology) (ports : List ℕ) (branches : List Branch)
    → (tree : IsTree topology ports branches) (n : ℕ) → n ≤ length branches
    → Leads topology (start_of topology.ports (legs_of ports branches) branches tree.trunk.talker n)
    (leg_at (legs_of ports branches) n)
leg_leads topology ports branches tree zero within =
    record { listener = tree.trunk.listener; walk = tree.trunk.walk }
leg_leads topology ports branches tree (suc n) within =
    let start : ℕ = start_of topology.ports (legs_of ports branches) branches tree.trunk.talker (suc n) in
    let branch : IsBranch topology (legs_of ports branches) (get_or branches n no_branch)
    (leg_at (legs_of ports branches) (1 + n)) = tree.each n (omega arith) in
    subst (λ (k : ℕ). Leads topology start (leg_at (legs_of ports branches) k)) (omega arith)
    (record { listener = branch.listener; walk = branch.walk })

-- the ports in front of a leg lead from the talker to where it begins
lead_leads : (topology : DeclaredTopology) (ports : List ℕ) (branches : List Branch) → AreBranches ports branches
    → (tree : IsTree topology ports branches) (fuel n : ℕ) → n ≤ fuel → n ≤ length branches
    → IsWalk topology.ports tree.trunk.talker
    (start_of topology.ports (legs_of ports branches) branches tree.trunk.talker n) (leg_at (leads_of ports branches) n)
lead_leads topology ports branches are tree fuel zero enough within =
    subst (IsWalk topology.ports tree.trunk.talker tree.trunk.talker) (sym (lead_of_trunk ports branches)) refl
lead_leads topology ports branches are tree zero (suc n) enough within = absurd (omega arith)
lead_leads topology ports branches are tree (suc fuel) (suc n) enough within =
    let b : Branch = get_or branches n no_branch in
    let legs : List (List ℕ) = legs_of ports branches in
    let leads : List (List ℕ) = leads_of ports branches in
    let begins : BeginsEarlier legs (1 + n) b = begins_at legs 1 branches n are.begin (omega arith) in
    let talker : ℕ = tree.trunk.talker in
    let start : ℕ = start_of topology.ports legs branches talker b.leg in
    let leg : Leads topology start (leg_at legs b.leg) =
    leg_leads topology ports branches tree b.leg (omega (arith, begins.earlier)) in
    let lead : leg_at leads (1 + n) ≡ leg_at leads b.leg ++ take b.hop (leg_at legs b.leg) =
    lead_of ports branches n are (omega arith) in
    subst (λ (k : ℕ). IsWalk topology.ports talker (node_of_branch topology.ports legs b) (leg_at leads k)) (omega
    arith)
    (subst (IsWalk topology.ports talker (node_of_branch topology.ports legs b)) (sym lead)
    (walk_join topology.ports talker start (node_of_branch topology.ports legs b) (leg_at leads b.leg)
    (take b.hop (leg_at legs b.leg))
    (lead_leads topology ports branches are tree fuel b.leg (omega (arith, begins.earlier))
    (omega (arith, begins.earlier)))
    (walk_front topology.ports start leg.listener (leg_at legs b.leg) b.hop leg.walk begins.within)))

-- legs begin one behind the other
pub first_rises : (at : ℕ) (branches : List Branch) (end n m : ℕ) → Ascend at branches end → n ≤ m → m ≤ length branches
    → first_from at branches n ≤ first_from at branches m
first_rises at branches end n zero ascend h within =
    let same : n ≡ 0 = omega (arith, h) in
    subst (λ (k : ℕ). first_from at branches k ≤ at) (sym same) (omega arith)
first_rises at branches end n (suc m) ascend h within = elim (cases_eq n (suc m)) as
    (λ _. first_from at branches n ≤ first_from at branches (suc m)) [
      | inl same ↦ subst (λ (k : ℕ). first_from at branches n ≤ first_from at branches k) same (omega arith)
      | inr other ↦ (
          let one : IsPlaced (first_from at branches m) (get_or branches m no_branch).first end =
          placed at branches end m ascend (omega arith) in
          omega (arith, one.ascends, first_rises at branches end n m ascend (omega (arith, h, other)) (omega arith)))
    ]

-- the ports in front of a leg are some of those that stand in front of its own
lead_part : (ports : List ℕ) (branches : List Branch) → AreBranches ports branches → (fuel n : ℕ) → n ≤ fuel
    → n ≤ length branches → IsPart (leg_at (leads_of ports branches) n) (take (first_from 0 branches n) ports)
lead_part ports branches are fuel zero enough within =
    subst (λ (l : List ℕ). IsPart l []) (sym (lead_of_trunk ports branches)) tt
lead_part ports branches are zero (suc n) enough within = absurd (omega arith)
lead_part ports branches are (suc fuel) (suc n) enough within =
    let b : Branch = get_or branches n no_branch in
    let legs : List (List ℕ) = legs_of ports branches in
    let leads : List (List ℕ) = leads_of ports branches in
    let begins : BeginsEarlier legs (1 + n) b = begins_at legs 1 branches n are.begin (omega arith) in
    let lead : leg_at leads (1 + n) ≡ leg_at leads b.leg ++ take b.hop (leg_at legs b.leg) =
    lead_of ports branches n are (omega arith) in
    let before : ℕ = first_from 0 branches b.leg in
    let behind : ℕ = (get_or branches b.leg no_branch).first in
    let one : IsPlaced before behind (length ports) =
    placed 0 branches (length ports) b.leg are.places (omega (arith, begins.earlier)) in
    let front : IsPart (take b.hop (leg_at legs b.leg)) (take (behind - before) (drop before ports)) =
    subst (IsPart (take b.hop (leg_at legs b.leg))) (leg_between 0 ports branches b.leg (omega (arith, begins.earlier)))
    (part_take b.hop (leg_at legs b.leg)) in
    let rises : behind ≤ first_from 0 branches (suc n) =
    first_rises 0 branches (length ports) (suc b.leg) (suc n) are.places (omega (arith, begins.earlier)) within in
    subst (λ (k : ℕ). IsPart (leg_at leads k) (take (first_from 0 branches (suc n)) ports)) (omega arith)
    (subst (λ (l : List ℕ). IsPart l (take (first_from 0 branches (suc n)) ports)) (sym lead)
    (part_more (leg_at leads b.leg ++ take b.hop (leg_at legs b.leg)) ports behind (first_from 0 branches (suc n)) rises
    (part_next (leg_at leads b.leg) (take b.hop (leg_at legs b.leg)) ports before behind (omega (arith, one.ascends))
    (lead_part ports branches are fuel b.leg (omega (arith, begins.earlier)) (omega (arith, begins.earlier))) front)))

leg_part : (ports : List ℕ) (branches : List Branch) (n : ℕ) → n ≤ length branches
    → IsPart (leg_at (legs_of ports branches) n) (drop (first_from 0 branches n) ports)
leg_part ports branches n within = elim (cases_lt n (length branches)) as
    (λ _. IsPart (leg_at (legs_of ports branches) n) (drop (first_from 0 branches n) ports)) [
      | inl below ↦ (
          let from : ℕ = first_from 0 branches n in
          let to : ℕ = (get_or branches n no_branch).first in
          subst (λ (l : List ℕ). IsPart l (drop from ports)) (sym (leg_between 0 ports branches n below))
          (part_take (to - from) (drop from ports)))
      | inr past ↦ (
          let last : length branches ≡ n = omega (arith, past, within) in
          subst (λ (k : ℕ). IsPart (leg_at (legs_of ports branches) k) (drop (first_from 0 branches k) ports)) last
          (subst (λ (l : List ℕ). IsPart l (drop (first_from 0 branches (length branches)) ports))
          (sym (leg_last 0 ports branches)) (part_same (drop (first_from 0 branches (length branches)) ports))))
    ]

-- the ports of a route are some of the stream's, in their order
pub route_part : (ports : List ℕ) (branches : List Branch) → AreBranches ports branches → (n : ℕ)
    → n ≤ length branches
    → IsPart (leg_at (leads_of ports branches) n ++ leg_at (legs_of ports branches) n) ports
route_part ports branches are n within =
    part_rest (leg_at (leads_of ports branches) n) (leg_at (legs_of ports branches) n) ports (first_from 0 branches n)
    (lead_part ports branches are n n (omega arith) within) (leg_part ports branches n within)

-- the nodes of a tree are apart, the talker's with them
first_same : (ports : List ℕ) (branches : List Branch) → 0 < length (leg_at (legs_of ports branches) 0)
    → get_or (leg_at (legs_of ports branches) 0) 0 0 ≡ get_or ports 0 0
first_same ports [] some = refl
first_same ports (b ∷ branches) some =
    get_or-take (b.first - 0) ports 0 0 (omega (arith, some, length-take (b.first - 0) ports))

pub from_talker : (topology : DeclaredTopology) (ports : List ℕ) (branches : List Branch)
    → (tree : IsTree topology ports branches) → 0 < length (leg_at (legs_of ports branches) 0)
    → (port_at topology.ports (get_or ports 0 0)).from ≡ tree.trunk.talker
from_talker topology ports branches tree some =
    ap (λ (p : ℕ). (port_at topology.ports p).from) (sym (first_same ports branches some))
    ∙ walk_first topology.ports tree.trunk.talker tree.trunk.listener (leg_at (legs_of ports branches) 0)
    tree.trunk.walk some

pub nodes_apart : (ports : List Port) (talker : ℕ) (numbers : List ℕ)
    → (port_at ports (get_or numbers 0 0)).from ≡ talker → AllPairs (λ a b. a ≢ b) (nodes_along ports numbers)
    → AllPairs (λ a b. a ≢ b) (talker ∷ nodes_to ports numbers)
nodes_apart ports talker [] first apart = λ i j d below within. absurd (omega arith)
nodes_apart ports talker (p ∷ numbers) first apart =
    subst (λ (n : ℕ). AllPairs (λ a b. a ≢ b) (n ∷ nodes_to ports (p ∷ numbers))) first apart

-- the node to which a port leads
abbrev to_of : List Port → ℕ → ℕ
to_of ports q = (port_at ports q).to

-- a part of ports along which no node occurs twice is a path without a node twice
pub part_apart : (ports : List Port) (talker : ℕ) (route numbers : List ℕ) → IsPart route numbers
    → AllPairs (λ a b. a ≢ b) (talker ∷ nodes_to ports numbers)
    → AllPairs (λ a b. a ≢ b) (talker ∷ nodes_to ports route)
part_apart ports talker route numbers part apart =
    AllPairs-cons (λ a b. a ≢ b) talker (nodes_to ports route)
    (λ k d h. (let inside : k < length route = omega (arith, h, length-map route (to_of ports)) in
    subst (λ (n : ℕ). talker ≢ n) (sym (get_or-map (to_of ports) route k 0 d inside))
    (part_all (λ p. talker ≢ to_of ports p) route numbers part never k 0 inside)))
    (λ i j d below within. (let inside : j < length route = omega (arith, within, length-map route (to_of ports)) in
    let other : to_of ports (get_or route i 0) ≢ to_of ports (get_or route j 0) =
    part_pairs (λ p q. to_of ports p ≢ to_of ports q) route numbers part differ i j 0 below inside in
    λ same. other (sym (get_or-map (to_of ports) route i 0 d (omega (arith, below, inside))) ∙ same
    ∙ get_or-map (to_of ports) route j 0 d inside)))
  where
    never : All (λ p. talker ≢ to_of ports p) numbers
    never k d h = λ same. pairs_head (λ a b. a ≢ b) talker (nodes_to ports numbers) apart k 0
        (omega (arith, h, length-map numbers (to_of ports)))
        (same ∙ sym (get_or-map (to_of ports) numbers k d 0 h))

    differ : AllPairs (λ p q. to_of ports p ≢ to_of ports q) numbers
    differ i j d below within = λ same.
        pairs_tail (λ a b. a ≢ b) talker (nodes_to ports numbers) apart i j 0 below
        (omega (arith, within, length-map numbers (to_of ports)))
        (get_or-map (to_of ports) numbers i d 0 (omega (arith, below, within)) ∙ same
        ∙ sym (get_or-map (to_of ports) numbers j d 0 within))

pub along_apart : (ports : List Port) (talker : ℕ) (route : List ℕ) → (port_at ports (get_or route 0 0)).from ≡ talker
    → AllPairs (λ a b. a ≢ b) (talker ∷ nodes_to ports route) → AllPairs (λ a b. a ≢ b) (nodes_along ports route)
along_apart ports talker [] first apart = λ i j d below within. absurd (omega arith)
along_apart ports talker (p ∷ route) first apart =
    subst (λ (n : ℕ). AllPairs (λ a b. a ≢ b) (n ∷ nodes_to ports (p ∷ route))) (sym first) apart

-- a route has a port
route_some : (topology : DeclaredTopology) (ports : List ℕ) (branches : List Branch) → AreBranches ports branches
    → IsTree topology ports branches → (n : ℕ) → n ≤ length branches
    → 0 < length (leg_at (leads_of ports branches) n ++ leg_at (legs_of ports branches) n)
route_some topology ports branches are tree zero within =
    let lead : List ℕ = leg_at (leads_of ports branches) 0 in
    let leg : List ℕ = leg_at (legs_of ports branches) 0 in
    omega (arith, tree.trunk.some, length-append lead leg)
route_some topology ports branches are tree (suc n) within =
    omega (
      arith,
      branch_some 0 ports branches n are.places (omega arith),
      length-append (leg_at (leads_of ports branches) (suc n)) (leg_at (legs_of ports branches) (suc n)),
    )

-- and is a walk from the talker
pub record RouteLeads (topology : DeclaredTopology) (talker : ℕ) (route : List ℕ) : Type 0 where
  pub listener : ℕ
  pub walk : IsWalk topology.ports talker listener route
  pub some : 0 < length route

pub route_leads : (topology : DeclaredTopology) (ports : List ℕ) (branches : List Branch)
    → AreBranches ports branches → (tree : IsTree topology ports branches) (n : ℕ) → n ≤ length branches
    → RouteLeads topology tree.trunk.talker
    (leg_at (leads_of ports branches) n ++ leg_at (legs_of ports branches) n)
route_leads topology ports branches are tree n within =
    let lead : List ℕ = leg_at (leads_of ports branches) n in
    let own : List ℕ = leg_at (legs_of ports branches) n in
    let talker : ℕ = tree.trunk.talker in
    let start : ℕ = start_of topology.ports (legs_of ports branches) branches talker n in
    let leg : Leads topology start own = leg_leads topology ports branches tree n within in
    record {
      listener = leg.listener;
      walk = walk_join topology.ports talker start leg.listener lead own
          (lead_leads topology ports branches are tree n n (omega arith) within) leg.walk;
      some = route_some topology ports branches are tree n within;
    }

-- so its first port leaves the talker
pub route_begins : (topology : DeclaredTopology) (ports : List ℕ) (branches : List Branch)
    → AreBranches ports branches → (tree : IsTree topology ports branches) (n : ℕ) → n ≤ length branches
    → (port_at topology.ports
    (get_or (leg_at (leads_of ports branches) n ++ leg_at (legs_of ports branches) n) 0 0)).from ≡ tree.trunk.talker
route_begins topology ports branches are tree n within =
    let route : List ℕ = leg_at (leads_of ports branches) n ++ leg_at (legs_of ports branches) n in
    let leads : RouteLeads topology tree.trunk.talker route = route_leads topology ports branches are tree n within in
    walk_first topology.ports tree.trunk.talker leads.listener route leads.walk leads.some

pub each_route_is_a_path : EachRouteIsAPath
each_route_is_a_path topology ports branches are tree n d h =
    let within : n ≤ length branches = omega (arith, h, routes-length ports branches) in
    let route : List ℕ = leg_at (leads_of ports branches) n ++ leg_at (legs_of ports branches) n in
    let talker : ℕ = tree.trunk.talker in
    let leads : RouteLeads topology talker route = route_leads topology ports branches are tree n within in
    let all : AllPairs (λ a b. a ≢ b) (talker ∷ nodes_to topology.ports ports) =
    nodes_apart topology.ports talker ports (from_talker topology ports branches tree tree.trunk.some) tree.apart in
    let apart : AllPairs (λ a b. a ≢ b) (talker ∷ nodes_to topology.ports route) =
    part_apart topology.ports talker route ports (route_part ports branches are n within) all in
    subst (IsValidPath topology) (sym (route-at ports branches n d within)) (record {
      talker = talker;
      listener = leads.listener;
      some = leads.some;
      walk = leads.walk;
      apart = along_apart topology.ports talker route (route_begins topology ports branches are tree n within) apart;
    })
