-- Least walks from one node make a tree, exactly where no listener is on the way to another one.
use Rattle.std.proofs.Common.{◌≡◌, ◌≢◌, ℕ, zero, suc, ◌+◌, ◌-◌, ◌<◌, ◌≤◌, Bool, true, false, List, [], ◌∷◌, ◌++◌}
use Rattle.std.proofs.Common.{length, take, drop}
use Rattle.std.proofs.Common.{◌⊎◌, get_or, refl, sym, ap, subst, ◌∙◌, arith, inl, inr, length-append}
use Rattle.std.proofs.Common.{length-drop, append_assoc}
use Rattle.std.specs.List.{All, AllPairs}
use Rattle.std.proofs.Math.Seq.{get_or-append_seam, take-append-add}
use Rattle.std.proofs.lemmas.Bool.{cases_lt, true≢false}
use Rattle.std.proofs.lemmas.List.{get_or-append-add, get_or-drop, get_or-take, append-nil, get_or_append_left}
use Rattle.std.proofs.lemmas.List.{length-take-le, map-append, take-append-drop, take_all}
use Rattle.std.proofs.lemmas.List.Elements.{All-append, All-cons, All-from_get_or, All-head, All-tail, All-take}
use Rattle.std.proofs.lemmas.List.Kept.{AllPairs-cons}
use Rattle.ats_facts.proofs.Lists.{pairs_head, pairs_tail}
use Rattle.ats_streams.specs.Branches.{AreBranches, BeginsEarlier, lead_to, leads_of, leg_at, legs_of, no_branch}
use Rattle.ats_streams.specs.Branches.{routes_of}
use Rattle.ats_streams.specs.declared.branch.Branch.{Branch}
use Rattle.ats_streams.proofs.BranchLemmas.{begins_at, lead_of_trunk, legs-length, route-at, routes-length}
use Rattle.ats_streams.proofs.BranchLemmas.{trunk_within}
use Rattle.ats_streams.proofs.OneListener.{no_branches}
use Rattle.ats_streams.proofs.RouteLemmas.{each_on_routes}
use Rattle.ats_topology.specs.Port.{port_at}
use Rattle.ats_topology.specs.Topology.{DeclaredTopology}
use Rattle.ats_topology.specs.Walks.{IsLeastWalk, IsWalk}
use Rattle.ats_topology.specs.declared.port.Port.{Port}
use Rattle.ats_topology.proofs.LawLemmas.{walk_is_one}
use Rattle.ats_network.specs.Laws.{AreLeast, EndApart, LeastWalksMakeATree, MakesTree}
use Rattle.ats_network.specs.Listeners.{end_of}
use Rattle.ats_network.specs.Path.{IsBranch, IsTree, IsValidPath, node_of_branch, nodes_along}
use Rattle.ats_network.specs.PathSteps.{comes_to}
use Rattle.ats_network.proofs.EndsApart.{Avoids, made_ends_apart, node_on, walk_ends}
use Rattle.ats_network.proofs.Grown.{Grows, grows}
use Rattle.ats_network.proofs.LeastWalkLemmas.{IsOnLeg, ends_once, least_upto, on_leg, own_node}
use Rattle.ats_network.proofs.LeastWalkLemmas.{walk_rest}
use Rattle.ats_network.proofs.LeastWalkLemmas.{walk_upto}
use Rattle.ats_network.proofs.Parts.{IsPart, part_later, part_same}
use Rattle.ats_network.proofs.PathLemmas.{away, nodes_to}
use Rattle.ats_network.proofs.ValidRoutes.{from_talker, nodes_apart, part_apart, route_leads, walk_first}

abbrev route_at : List ℕ → List Branch → ℕ → List ℕ
route_at ports branches n = leg_at (leads_of ports branches) n ++ leg_at (legs_of ports branches) n

-- a tree of which each route is the least walk to its listener
record IsFan (topology : DeclaredTopology) (talker : ℕ) (listeners : List ℕ) (routes : List (List ℕ))
    (ports : List ℕ) (branches : List Branch) : Type 0 where
  are : AreBranches ports branches
  tree : IsTree topology ports branches
  talker_is : tree.trunk.talker ≡ talker
  many : length listeners ≡ 1 + length branches
  routes_are : routes_of ports branches ≡ routes
  least : (n : ℕ) → n ≤ length branches
      → IsLeastWalk topology.ports talker (get_or listeners n 0) (route_at ports branches n)

-- a port of the tree leads where this one leads
abbrev is_in : List Port → List ℕ → ℕ → Bool
is_in ports numbers p = comes_to ports (port_at ports p).to numbers

-- a node of the tree, and the tree's way there
record IsReached (topology : DeclaredTopology) (talker : ℕ) (ports : List ℕ) (branches : List Branch) (node : ℕ) :
    Type 0
  where
    on : IsOnLeg topology.ports (legs_of ports branches) (length branches) node
    least : IsLeastWalk topology.ports talker node
        (leg_at (leads_of ports branches) on.leg ++ take (suc on.hop) (leg_at (legs_of ports branches) on.leg))
    all_in : All (λ p. is_in topology.ports ports p ≡ true)
        (leg_at (leads_of ports branches) on.leg ++ take (suc on.hop) (leg_at (legs_of ports branches) on.leg))

reached : (topology : DeclaredTopology) (talker : ℕ) (listeners : List ℕ) (routes : List (List ℕ)) (ports : List ℕ)
    (branches : List Branch) (node : ℕ) → IsFan topology talker listeners routes ports branches
    → comes_to topology.ports node ports ≡ true → IsReached topology talker ports branches node
reached topology talker listeners routes ports branches node fan comes = record {
  on = on;
  least = subst (IsLeastWalk topology.ports talker node) cut
      (subst (λ (n : ℕ). IsLeastWalk topology.ports talker n (take (suc place) route)) leads
      (least_upto topology.ports talker (get_or listeners on.leg 0) route place (fan.least on.leg on.inside) within));
  all_in = subst (All In) cut (All-take In (suc place) route
      (subst (All In) (route-at ports branches on.leg [] on.inside) (each_on_routes In ports branches
      (All-from_get_or In ports 0 (λ i h. own_node topology.ports ports i h)) on.leg []
      (omega (arith, on.inside, routes-length ports branches)))));
}
  where
    In : ℕ → Type 0
    In p = is_in topology.ports ports p ≡ true

    on : IsOnLeg topology.ports (legs_of ports branches) (length branches) node
    on = on_leg topology.ports node 0 ports branches fan.are.places comes

    lead : List ℕ
    lead = leg_at (leads_of ports branches) on.leg

    leg : List ℕ
    leg = leg_at (legs_of ports branches) on.leg

    route : List ℕ
    route = lead ++ leg

    place : ℕ
    place = length lead + on.hop

    within : length lead + on.hop < length (lead ++ leg)
    within = omega (arith, on.within, length-append lead leg)

    cut : take (suc (length lead + on.hop)) (lead ++ leg) ≡ lead ++ take (suc on.hop) leg
    cut = let next : suc (length lead + on.hop) ≡ length lead + suc on.hop = omega arith in
        ap (λ (n : ℕ). take n (lead ++ leg)) next ∙ take-append-add lead leg (suc on.hop)

    leads : (port_at topology.ports (get_or (lead ++ leg) (length lead + on.hop) 0)).to ≡ node
    leads = ap (λ (p : ℕ). (port_at topology.ports p).to) (get_or-append-add lead leg on.hop 0) ∙ on.leads

-- the first ports of a least walk, up to one that leads to a node of the tree, are the tree's way there
same_way : (topology : DeclaredTopology) (talker l : ℕ) (ports : List ℕ) (branches : List Branch) (r : List ℕ) (i : ℕ)
    → IsLeastWalk topology.ports talker l r → i < length r
    → (way : IsReached topology talker ports branches (port_at topology.ports (get_or r i 0)).to)
    → take (suc i) r ≡ leg_at (leads_of ports branches) way.on.leg
    ++ take (suc way.on.hop) (leg_at (legs_of ports branches) way.on.leg)
same_way topology talker l ports branches r i least within way =
    walk_is_one topology.ports talker (port_at topology.ports (get_or r i 0)).to (take (suc i) r)
    (leg_at (leads_of ports branches) way.on.leg ++ take (suc way.on.hop) (leg_at (legs_of ports branches) way.on.leg))
    (least_upto topology.ports talker l r i least within) way.least

-- so each port before one that leads into the tree leads into it too
in_before : (topology : DeclaredTopology) (talker l : ℕ) (listeners : List ℕ) (routes : List (List ℕ))
    (ports : List ℕ) (branches : List Branch) (r : List ℕ) (i j : ℕ)
    → IsFan topology talker listeners routes ports branches → IsLeastWalk topology.ports talker l r → j ≤ i → i <
    length r
    → is_in topology.ports ports (get_or r i 0) ≡ true → is_in topology.ports ports (get_or r j 0) ≡ true
in_before topology talker l listeners routes ports branches r i j fan least before within comes =
    let way : IsReached topology talker ports branches (port_at topology.ports (get_or r i 0)).to =
    reached topology talker listeners routes ports branches (port_at topology.ports (get_or r i 0)).to fan comes in
    let front : List ℕ = leg_at (leads_of ports branches) way.on.leg
    ++ take (suc way.on.hop) (leg_at (legs_of ports branches) way.on.leg) in
    let same : take (suc i) r ≡ front = same_way topology talker l ports branches r i least within way in
    let all : All (λ p. is_in topology.ports ports p ≡ true) (take (suc i) r) =
    subst (All (λ p. is_in topology.ports ports p ≡ true)) (sym same) way.all_in in
    let long : length (take (suc i) r) ≡ suc i = length-take-le (suc i) r (omega (arith, within)) in
    subst (λ (p : ℕ). is_in topology.ports ports p ≡ true) (get_or-take (suc i) r j 0 (omega (arith, before)))
    (all j 0 (omega (arith, long, before)))

-- the place of the first element that fails
record FirstOut (test : ℕ → Bool) (xs : List ℕ) : Type 0 where
  place : ℕ
  within : place ≤ length xs
  before : (i : ℕ) → i < place → test (get_or xs i 0) ≡ true
  here : place < length xs → test (get_or xs place 0) ≡ false

first_out : (test : ℕ → Bool) (xs : List ℕ) → FirstOut test xs
first_out test [] = record {
  place = 0;
  within = omega arith;
  before = λ i h. absurd (omega arith);
  here = λ h. absurd (omega arith);
}
first_out test (x ∷ xs) = by (test x) refl (first_out test xs)
  where
    by : (t : Bool) → test x ≡ t → FirstOut test xs → FirstOut test (x ∷ xs)
    by true e s = record {
      place = suc s.place;
      within = omega (arith, s.within);
      before = earlier;
      here = λ h. s.here (omega arith);
    }
      where
        earlier : (i : ℕ) → i < suc s.place → test (get_or (x ∷ xs) i 0) ≡ true
        earlier zero h = e
        earlier (suc i) h = s.before i (omega arith)
    by false e s = record {
      place = 0;
      within = omega arith;
      before = λ i h. absurd (omega arith);
      here = λ h. e;
    }

-- each port of a walk leaves the node to which the one before leads
walk_next : (ports : List Port) (a b : ℕ) (path : List ℕ) (i : ℕ) → IsWalk ports a b path → suc i < length path
    → (port_at ports (get_or path (suc i) 0)).from ≡ (port_at ports (get_or path i 0)).to
walk_next ports a b [] i walk within = absurd (omega arith)
walk_next ports a b (p ∷ []) i walk within = absurd (omega arith)
walk_next ports a b (p ∷ q ∷ path) zero walk within = walk.1.0.from
walk_next ports a b (p ∷ q ∷ path) (suc i) walk within =
    walk_next ports (port_at ports p).to b (q ∷ path) i walk.1 (omega arith)

-- a leg goes on from a node
record IsInner (topology : DeclaredTopology) (ports : List ℕ) (branches : List Branch) (node leg hop : ℕ) : Type 0 where
  within : suc hop < length (leg_at (legs_of ports branches) leg)
  from : (port_at topology.ports (get_or (leg_at (legs_of ports branches) leg) (suc hop) 0)).from ≡ node

-- a node of the tree is where a leg goes on, or the listener of the leg
abbrev Place : DeclaredTopology → List ℕ → List ℕ → List Branch → ℕ → ℕ → ℕ → Type 0
Place topology listeners ports branches node leg hop =
    IsInner topology ports branches node leg hop ⊎ (node ≡ get_or listeners leg 0)

place_of_node : (topology : DeclaredTopology) (talker : ℕ) (listeners : List ℕ) (routes : List (List ℕ))
    (ports : List ℕ) (branches : List Branch) (node : ℕ) → IsFan topology talker listeners routes ports branches
    → (way : IsReached topology talker ports branches node)
    → Place topology listeners ports branches node way.on.leg way.on.hop
place_of_node topology talker listeners routes ports branches node fan way =
    elim (cases_lt (suc hop) (length leg)) as (λ _. Place topology listeners ports branches node way.on.leg hop) [
      | inl more ↦ (
          let within : suc (length lead + hop) < length route = omega (arith, more, length-append lead leg) in
          let meet : (port_at topology.ports (get_or route (suc (length lead + hop)) 0)).from
          ≡ (port_at topology.ports (get_or route (length lead + hop) 0)).to =
          walk_next topology.ports talker (get_or listeners way.on.leg 0) route (length lead + hop)
          (fan.least way.on.leg way.on.inside).walk_is within in
          let next : suc (length lead + hop) ≡ length lead + suc hop = omega arith in
          let here : get_or route (length lead + hop) 0 ≡ get_or leg hop 0 = get_or-append-add lead leg hop 0 in
          let there : get_or route (suc (length lead + hop)) 0 ≡ get_or leg (suc hop) 0 =
          ap (λ (n : ℕ). get_or route n 0) next ∙ get_or-append-add lead leg (suc hop) 0 in
          let node_is : (port_at topology.ports (get_or route (length lead + hop) 0)).to ≡ node =
          ap (λ (p : ℕ). (port_at topology.ports p).to) here ∙ way.on.leads in
          inl (record {
            within = more;
            from = ap (λ (p : ℕ). (port_at topology.ports p).from) (sym there) ∙ meet ∙ node_is;
          }))
      | inr past ↦ (
          let all : take (suc hop) leg ≡ leg = take_all (suc hop) leg (omega (arith, past)) in
          let walk : IsWalk topology.ports talker node route =
          subst (λ (l : List ℕ). IsWalk topology.ports talker node (lead ++ l)) all way.least.walk_is in
          inr (ends_once topology.ports talker node (get_or listeners way.on.leg 0) route walk
          (fan.least way.on.leg way.on.inside).walk_is))
    ]
  where
    hop : ℕ
    hop = way.on.hop

    lead : List ℕ
    lead = leg_at (leads_of ports branches) way.on.leg

    leg : List ℕ
    leg = leg_at (legs_of ports branches) way.on.leg

    route : List ℕ
    route = lead ++ leg

-- a further walk leaves the tree at a hop of one of its legs, or at the talker
record Leaves (topology : DeclaredTopology) (l : ℕ) (ports : List ℕ) (branches : List Branch) (r : List ℕ) : Type 0
  where
    count : ℕ
    leg : ℕ
    hop : ℕ
    below : count < length r
    inside : leg ≤ length branches
    within : hop < length (leg_at (legs_of ports branches) leg)
    at_talker : hop ≡ 0 → leg ≡ 0
    front : take count r ≡ leg_at (leads_of ports branches) leg ++ take hop (leg_at (legs_of ports branches) leg)
    walk : IsWalk topology.ports (port_at topology.ports (get_or (leg_at (legs_of ports branches) leg) hop 0)).from l
        (drop count r)
    out : (i : ℕ) → count ≤ i → i < length r → is_in topology.ports ports (get_or r i 0) ≡ false

-- no listener of the tree is on the way of the walk, nor its end on a route of the tree
record IsFresh (topology : DeclaredTopology) (l : ℕ) (listeners ports : List ℕ) (branches : List Branch) (r : List ℕ) :
    Type 0
  where
    others : (n : ℕ) → n ≤ length branches → Avoids topology.ports (route_at ports branches n) l
    own : (n : ℕ) → n ≤ length branches → Avoids topology.ports r (get_or listeners n 0)

-- behind a port that leads into the tree
leaves_behind : (topology : DeclaredTopology) (talker l : ℕ) (listeners : List ℕ) (routes : List (List ℕ))
    (ports : List ℕ) (branches : List Branch) (r : List ℕ) (place : ℕ)
    → IsFan topology talker listeners routes ports branches → IsLeastWalk topology.ports talker l r
    → IsFresh topology l listeners ports branches r → 1 ≤ place → place ≤ length r
    → is_in topology.ports ports (get_or r (place - 1) 0) ≡ true
    → ((i : ℕ) → place ≤ i → i < length r → is_in topology.ports ports (get_or r i 0) ≡ false)
    → Leaves topology l ports branches r
leaves_behind topology talker l listeners routes ports branches r place fan least fresh positive inside last out =
    by spot
  where
    P : List Port
    P = topology.ports

    node : ℕ
    node = (port_at topology.ports (get_or r (place - 1) 0)).to

    way : IsReached topology talker ports branches (port_at topology.ports (get_or r (place - 1) 0)).to
    way = reached topology talker listeners routes ports branches
        (port_at topology.ports (get_or r (place - 1) 0)).to fan last

    within : place - 1 < length r
    within = omega (arith, positive, inside)

    next : suc (place - 1) ≡ place
    next = omega (arith, positive)

    lead : List ℕ
    lead = leg_at (leads_of ports branches) way.on.leg

    leg : List ℕ
    leg = leg_at (legs_of ports branches) way.on.leg

    -- the node is on the route of its leg, so it is not the end of the walk
    on_route : (port_at topology.ports (get_or (lead ++ leg) (length lead + way.on.hop) 0)).to ≡ node
    on_route = ap (λ (p : ℕ). (port_at P p).to) (get_or-append-add lead leg way.on.hop 0) ∙ way.on.leads

    ended : place ≡ length r → node ≡ l
    ended end =
        let all : take (suc (place - 1)) r ≡ r = take_all (suc (place - 1)) r (omega (arith, positive, end)) in
        ends_once P talker node l r
        (subst (IsWalk P talker node) all (walk_upto P talker l r (place - 1) least.walk_is within)) least.walk_is

    below : place < length r
    below = elim (cases_lt place (length r)) as (λ _. place < length r) [
      | inl h ↦ h
      | inr past ↦ absurd (node_on (λ (n : ℕ). n ≢ l) P (lead ++ leg) (length lead + way.on.hop)
          (omega (arith, way.on.within, length-append lead leg)) (fresh.others way.on.leg way.on.inside)
          (on_route ∙ ended (omega (arith, past, inside))))
    ]

    spot : Place topology listeners ports branches (port_at topology.ports (get_or r (place - 1) 0)).to way.on.leg
        way.on.hop
    spot = place_of_node topology talker listeners routes ports branches
        (port_at topology.ports (get_or r (place - 1) 0)).to fan way

    by : Place topology listeners ports branches (port_at topology.ports (get_or r (place - 1) 0)).to way.on.leg
        way.on.hop → Leaves topology l ports branches r
    by (inl s) = record {
      count = place;
      leg = way.on.leg;
      hop = suc way.on.hop;
      below = below;
      inside = way.on.inside;
      within = s.within;
      at_talker = λ zero. absurd (omega (arith, zero));
      front = ap (λ (n : ℕ). take n r) (sym next)
          ∙ same_way topology talker l ports branches r (place - 1) least within way;
      walk = subst (λ (n : ℕ). IsWalk P n l (drop place r)) (sym s.from)
          (subst (λ (k : ℕ). IsWalk P node l (drop k r)) next
          (walk_rest P talker l r (place - 1) least.walk_is within));
      out = out;
    }
    by (inr same) = absurd (node_on (λ (n : ℕ). n ≢ get_or listeners way.on.leg 0) P r (place - 1) within
        (fresh.own way.on.leg way.on.inside) same)

leaves_tree : (topology : DeclaredTopology) (talker l : ℕ) (listeners : List ℕ) (routes : List (List ℕ))
    (ports : List ℕ) (branches : List Branch) (r : List ℕ) → IsFan topology talker listeners routes ports branches
    → IsLeastWalk topology.ports talker l r → IsFresh topology l listeners ports branches r → 0 < length r
    → Leaves topology l ports branches r
leaves_tree topology talker l listeners routes ports branches r fan least fresh some = by (cases_lt 0 f.place)
  where
    P : List Port
    P = topology.ports

    f : FirstOut (λ p. is_in topology.ports ports p) r
    f = first_out (λ p. is_in topology.ports ports p) r

    -- behind the first port that leads out of the tree all lead out of it
    never : f.place < length r → (i : ℕ) → f.place ≤ i → i < length r → (t : Bool)
        → is_in topology.ports ports (get_or r i 0) ≡ t → is_in topology.ports ports (get_or r i 0) ≡ false
    never below i h inside false e = e
    never below i h inside true e = absurd (true≢false (sym (in_before topology talker l listeners routes ports
        branches r i f.place fan least h inside e) ∙ f.here below))

    -- it leaves it at the talker
    first : f.place ≡ 0 → Leaves topology l ports branches r
    first none = record {
      count = 0;
      leg = 0;
      hop = 0;
      below = some;
      inside = omega arith;
      within = fan.tree.trunk.some;
      at_talker = λ zero. refl;
      front = sym (ap (λ (lead : List ℕ). lead ++ []) (lead_of_trunk ports branches));
      walk = subst (λ (n : ℕ). IsWalk P n l r) (sym (walk_first P fan.tree.trunk.talker fan.tree.trunk.listener
          (leg_at (legs_of ports branches) 0) fan.tree.trunk.walk fan.tree.trunk.some ∙ fan.talker_is)) least.walk_is;
      out = λ i h inside. never (omega (arith, none, some)) i (omega (arith, none)) inside
          (is_in P ports (get_or r i 0)) refl;
    }

    by : (0 < f.place) ⊎ (f.place ≤ 0) → Leaves topology l ports branches r
    by (inl positive) = leaves_behind topology talker l listeners routes ports branches r f.place fan least fresh
        (omega (arith, positive)) f.within (f.before (f.place - 1) (omega (arith, positive)))
        (λ i h inside. never (omega (arith, h, inside)) i h inside (is_in P ports (get_or r i 0)) refl)
    by (inr none) = first (omega (arith, none))

-- what is left of a list is a part of it
part_drop : (n : ℕ) (xs : List ℕ) → IsPart (drop n xs) xs
part_drop zero xs = part_same xs
part_drop (suc n) [] = tt
part_drop (suc n) (x ∷ xs) = part_later (drop n xs) xs x (part_drop n xs)

-- the pairs of two joined lists
pairs_joined : {X : Type 0} (R : X → X → Type 0) (xs ys : List X) → AllPairs R xs → AllPairs R ys
    → All (λ x. All (R x) ys) xs → AllPairs R (xs ++ ys)
pairs_joined R [] ys first second across = second
pairs_joined R (x ∷ xs) ys first second across =
    AllPairs-cons R x (xs ++ ys) (All-append (R x) xs ys (pairs_head R x xs first)
    (All-head (λ z. All (R z) ys) x xs across))
    (pairs_joined R xs ys (pairs_tail R x xs first) second (All-tail (λ z. All (R z) ys) x xs across))

-- the nodes of a tree with more ports, which lead to nodes that it does not have
apart_more : (ports : List Port) (talker : ℕ) (numbers own : List ℕ) → 0 < length numbers
    → (port_at ports (get_or numbers 0 0)).from ≡ talker
    → AllPairs (λ a b. a ≢ b) (nodes_along ports numbers) → AllPairs (λ a b. a ≢ b) (talker ∷ nodes_to ports own)
    → All (λ p. is_in ports numbers p ≡ false) own → AllPairs (λ a b. a ≢ b) (nodes_along ports (numbers ++ own))
apart_more ports talker [] own some from first second out = absurd (omega arith)
apart_more ports talker (q ∷ numbers) own some from first second out =
    subst (AllPairs (λ a b. a ≢ b)) (sym whole)
    (pairs_joined (λ a b. a ≢ b) (nodes_along ports (q ∷ numbers)) (nodes_to ports own) first
    (pairs_tail (λ a b. a ≢ b) talker (nodes_to ports own) second) across)
  where
    whole : nodes_along ports (q ∷ numbers ++ own) ≡ nodes_along ports (q ∷ numbers) ++ nodes_to ports own
    whole = ap (λ (l : List ℕ). (port_at ports q).from ∷ l)
        (map-append (λ p. (port_at ports p).to) (q ∷ numbers) own)

    never : All (λ n. (port_at ports q).from ≢ n) (nodes_to ports own)
    never = subst (λ (t : ℕ). All (λ n. t ≢ n) (nodes_to ports own)) (sym from)
        (pairs_head (λ a b. a ≢ b) talker (nodes_to ports own) second)

    apart_from : (mine : List ℕ) → All (λ p. is_in ports (q ∷ numbers) p ≡ false) mine
        → All (λ n. All (λ m. n ≢ m) (nodes_to ports mine)) (nodes_to ports (q ∷ numbers))
    apart_from [] h = λ k d below i e inside. absurd (omega arith)
    apart_from (p ∷ mine) h =
        let here : All (λ n. (port_at ports p).to ≢ n) (nodes_to ports (q ∷ numbers)) =
        away ports (port_at ports p).to (q ∷ numbers)
        (All-head (λ x. is_in ports (q ∷ numbers) x ≡ false) p mine h) in
        let rest : All (λ n. All (λ m. n ≢ m) (nodes_to ports mine)) (nodes_to ports (q ∷ numbers)) =
        apart_from mine (All-tail (λ x. is_in ports (q ∷ numbers) x ≡ false) p mine h) in
        λ k d below. All-cons (λ m. get_or (nodes_to ports (q ∷ numbers)) k d ≢ m) (port_at ports p).to
        (nodes_to ports mine) (λ same. here k d below (sym same)) (rest k d below)

    across : All (λ n. All (λ m. n ≢ m) (nodes_to ports own)) (nodes_along ports (q ∷ numbers))
    across = All-cons (λ n. All (λ m. n ≢ m) (nodes_to ports own)) (port_at ports q).from
        (nodes_to ports (q ∷ numbers)) never (apart_from own out)

-- a fan for these listeners and routes
record Fan (topology : DeclaredTopology) (talker : ℕ) (listeners : List ℕ) (routes : List (List ℕ)) : Type 0 where
  ports : List ℕ
  branches : List Branch
  fan : IsFan topology talker listeners routes ports branches

-- the first node of a least walk that is a valid path
talker_of : (topology : DeclaredTopology) (talker l : ℕ) (r : List ℕ) → IsLeastWalk topology.ports talker l r
    → (valid : IsValidPath topology r) → 0 < length r → valid.talker ≡ talker
talker_of topology talker l r least valid some =
    sym (walk_first topology.ports valid.talker valid.listener r valid.walk some)
    ∙ walk_first topology.ports talker l r least.walk_is some

grow : (topology : DeclaredTopology) (talker l : ℕ) (listeners : List ℕ) (routes : List (List ℕ)) (ports : List ℕ)
    (branches : List Branch) (r : List ℕ) → IsFan topology talker listeners routes ports branches
    → IsLeastWalk topology.ports talker l r → IsValidPath topology r → IsFresh topology l listeners ports branches r
    → 1 + length branches ≤ 65535
    → Fan topology talker (listeners ++ l ∷ []) (routes ++ r ∷ [])
grow topology talker l listeners routes ports branches r fan least valid fresh few = record {
  ports = ports ++ own;
  branches = branches ++ b ∷ [];
  fan = record {
    are = g.are;
    tree = record { trunk = trunk; each = each; apart = apart };
    talker_is = fan.talker_is;
    many = omega (arith, fan.many, length-append listeners (l ∷ []), length-append branches (b ∷ []));
    routes_are = g.routes ∙ ap (λ (rs : List (List ℕ)). rs ++ (lead_to legs leads b ++ own) ∷ []) fan.routes_are
        ∙ ap (λ (x : List ℕ). routes ++ x ∷ []) whole;
    least = λ n h. least_at n h (cases_lt n (1 + length branches));
  };
}
  where
    legs : List (List ℕ)
    legs = legs_of ports branches

    leads : List (List ℕ)
    leads = leads_of ports branches

    some : 0 < length r
    some = valid.some

    off : Leaves topology l ports branches r
    off = leaves_tree topology talker l listeners routes ports branches r fan least fresh some

    own : List ℕ
    own = drop off.count r

    b : Branch
    b = record { first = length ports; leg = off.leg; hop = off.hop }

    begins : BeginsEarlier (legs_of ports branches) (1 + length branches) b
    begins = record { earlier = omega (arith, off.inside); at_talker = off.at_talker; within = off.within }

    some_ports : 1 ≤ length ports
    some_ports = omega (arith, fan.tree.trunk.some, trunk_within ports branches)

    g : Grows ports own branches b
    g = grows ports own branches b fan.are some_ports (omega (arith, off.below, length-drop off.count r)) refl begins
        few

    whole : lead_to legs leads b ++ own ≡ r
    whole = ap (λ (l : List ℕ). l ++ own) (sym off.front) ∙ take-append-drop off.count r

    count : length legs ≡ suc (length branches)
    count = legs-length 0 ports branches

    same : (n : ℕ) → n ≤ length branches → leg_at (legs_of (ports ++ own) (branches ++ b ∷ [])) n ≡ leg_at legs n
    same n h = ap (λ (ls : List (List ℕ)). leg_at ls n) g.legs
        ∙ get_or_append_left legs (own ∷ []) [] n (omega (arith, h, count))

    new : leg_at (legs_of (ports ++ own) (branches ++ b ∷ [])) (1 + length branches) ≡ own
    new = let at : 1 + length branches ≡ length legs = omega (arith, count) in
        ap (λ (ls : List (List ℕ)). leg_at ls (1 + length branches)) g.legs
        ∙ ap (λ (n : ℕ). leg_at (legs ++ own ∷ []) n) at ∙ get_or-append_seam legs own [] []

    trunk : IsValidPath topology (leg_at (legs_of (ports ++ own) (branches ++ b ∷ [])) 0)
    trunk = record {
      talker = fan.tree.trunk.talker;
      listener = fan.tree.trunk.listener;
      some = subst (λ (path : List ℕ). 1 ≤ length path) (sym (same 0 (omega arith))) fan.tree.trunk.some;
      walk = subst (IsWalk topology.ports fan.tree.trunk.talker fan.tree.trunk.listener) (sym (same 0 (omega arith)))
          fan.tree.trunk.walk;
      apart = subst (λ (path : List ℕ). AllPairs (λ x y. x ≢ y) (nodes_along topology.ports path))
          (sym (same 0 (omega arith))) fan.tree.trunk.apart;
    }

    -- the branch leads from the node where the walk leaves the tree
    own_walk : IsWalk topology.ports (node_of_branch topology.ports legs b) l own
    own_walk = off.walk

    starts : (c : Branch) → c.leg ≤ length branches
        → node_of_branch topology.ports (legs_of (ports ++ own) (branches ++ b ∷ [])) c
        ≡ node_of_branch topology.ports legs c
    starts c h = ap (λ (path : List ℕ). (port_at topology.ports (get_or path c.hop 0)).from) (same c.leg h)

    each : (n : ℕ) → n < length (branches ++ b ∷ []) → IsBranch topology
        (legs_of (ports ++ own) (branches ++ b ∷ [])) (get_or (branches ++ b ∷ []) n no_branch)
        (leg_at (legs_of (ports ++ own) (branches ++ b ∷ [])) (1 + n))
    each n h = by (cases_lt n (length branches))
      where
        by : (n < length branches) ⊎ (length branches ≤ n) → IsBranch topology
            (legs_of (ports ++ own) (branches ++ b ∷ [])) (get_or (branches ++ b ∷ []) n no_branch)
            (leg_at (legs_of (ports ++ own) (branches ++ b ∷ [])) (1 + n))
        by (inl below) =
            let c : Branch = get_or branches n no_branch in
            let c_is : get_or (branches ++ b ∷ []) n no_branch ≡ c =
            get_or_append_left branches (b ∷ []) no_branch n below in
            let first : IsBranch topology legs c (leg_at legs (1 + n)) = fan.tree.each n below in
            let begun : BeginsEarlier legs (1 + n) c = begins_at legs 1 branches n fan.are.begin below in
            subst (λ (d : Branch). IsBranch topology (legs_of (ports ++ own) (branches ++ b ∷ [])) d
            (leg_at (legs_of (ports ++ own) (branches ++ b ∷ [])) (1 + n))) (sym c_is) (record {
              listener = first.listener;
              walk = subst (λ (path : List ℕ). IsWalk topology.ports (node_of_branch topology.ports
                  (legs_of (ports ++ own) (branches ++ b ∷ [])) c) first.listener path)
                  (sym (same (1 + n) (omega (arith, below))))
                  (subst (λ (start : ℕ). IsWalk topology.ports start first.listener (leg_at legs (1 + n)))
                  (sym (starts c (omega (arith, begun.earlier, below)))) first.walk);
            })
        by (inr past) =
            let at : length branches ≡ n = omega (arith, past, h, length-append branches (b ∷ [])) in
            subst (λ (k : ℕ). IsBranch topology (legs_of (ports ++ own) (branches ++ b ∷ []))
            (get_or (branches ++ b ∷ []) k no_branch) (leg_at (legs_of (ports ++ own) (branches ++ b ∷ [])) (1 + k))) at
            (subst (λ (d : Branch). IsBranch topology (legs_of (ports ++ own) (branches ++ b ∷ [])) d
            (leg_at (legs_of (ports ++ own) (branches ++ b ∷ [])) (1 + length branches)))
            (sym (get_or-append_seam branches b [] no_branch)) (record {
              listener = l;
              walk = subst (λ (path : List ℕ). IsWalk topology.ports (node_of_branch topology.ports
                  (legs_of (ports ++ own) (branches ++ b ∷ [])) b) l path) (sym new)
                  (subst (λ (start : ℕ). IsWalk topology.ports start l own) (sym (starts b off.inside)) own_walk);
            }))

    -- the nodes of the walk, and those of them that its own ports lead to
    nodes : AllPairs (λ x y. x ≢ y) (talker ∷ nodes_to topology.ports r)
    nodes = nodes_apart topology.ports talker r (walk_first topology.ports talker l r least.walk_is some) valid.apart

    own_nodes : AllPairs (λ x y. x ≢ y) (talker ∷ nodes_to topology.ports own)
    own_nodes = part_apart topology.ports talker own r (part_drop off.count r) nodes

    out : All (λ p. is_in topology.ports ports p ≡ false) own
    out = All-from_get_or (λ p. is_in topology.ports ports p ≡ false) own 0 (λ i h.
        subst (λ (p : ℕ). is_in topology.ports ports p ≡ false) (sym (get_or-drop off.count r i 0))
        (off.out (off.count + i) (omega arith) (omega (arith, h, length-drop off.count r))))

    apart : AllPairs (λ x y. x ≢ y) (nodes_along topology.ports (ports ++ own))
    apart = apart_more topology.ports talker ports own (omega (arith, some_ports))
        (from_talker topology ports branches fan.tree fan.tree.trunk.some ∙ fan.talker_is) fan.tree.apart own_nodes out

    -- the routes that were there stay, and the last one is the walk
    routes_then : (n : ℕ) → n ≤ length branches
        → route_at (ports ++ own) (branches ++ b ∷ []) n ≡ route_at ports branches n
    routes_then n h =
        sym (route-at (ports ++ own) (branches ++ b ∷ []) n [] (omega (arith, h, length-append branches (b ∷ []))))
        ∙ ap (λ (rs : List (List ℕ)). get_or rs n []) g.routes
        ∙ get_or_append_left (routes_of ports branches) ((lead_to legs leads b ++ own) ∷ []) [] n
        (omega (arith, h, routes-length ports branches))
        ∙ route-at ports branches n [] h

    route_new : route_at (ports ++ own) (branches ++ b ∷ []) (1 + length branches) ≡ r
    route_new =
        let at : 1 + length branches ≡ length (routes_of ports branches) = omega (arith, routes-length ports branches)
        in
        sym (route-at (ports ++ own) (branches ++ b ∷ []) (1 + length branches) []
        (omega (arith, length-append branches (b ∷ []))))
        ∙ ap (λ (rs : List (List ℕ)). get_or rs (1 + length branches) []) g.routes
        ∙ ap (λ (n : ℕ). get_or (routes_of ports branches ++ (lead_to legs leads b ++ own) ∷ []) n []) at
        ∙ get_or-append_seam (routes_of ports branches) (lead_to legs leads b ++ own) [] [] ∙ whole

    last_is : get_or (listeners ++ l ∷ []) (1 + length branches) 0 ≡ l
    last_is = ap (λ (n : ℕ). get_or (listeners ++ l ∷ []) n 0) (sym fan.many)
        ∙ get_or-append_seam listeners l [] 0

    least_at : (n : ℕ) → n ≤ length (branches ++ b ∷ []) → (n < 1 + length branches) ⊎ (1 + length branches ≤ n)
        → IsLeastWalk topology.ports talker (get_or (listeners ++ l ∷ []) n 0)
        (route_at (ports ++ own) (branches ++ b ∷ []) n)
    least_at n h (inl below) =
        subst (λ (k : ℕ). IsLeastWalk topology.ports talker k (route_at (ports ++ own) (branches ++ b ∷ []) n))
        (sym (get_or_append_left listeners (l ∷ []) 0 n (omega (arith, below, fan.many))))
        (subst (IsLeastWalk topology.ports talker (get_or listeners n 0)) (sym (routes_then n (omega (arith, below))))
        (fan.least n (omega (arith, below))))
    least_at n h (inr past) =
        let at : 1 + length branches ≡ n = omega (arith, past, h, length-append branches (b ∷ [])) in
        subst (λ (m : ℕ). IsLeastWalk topology.ports talker (get_or (listeners ++ l ∷ []) m 0)
        (route_at (ports ++ own) (branches ++ b ∷ []) m)) at
        (subst (λ (k : ℕ). IsLeastWalk topology.ports talker k
        (route_at (ports ++ own) (branches ++ b ∷ []) (1 + length branches))) (sym last_is)
        (subst (IsLeastWalk topology.ports talker l) (sym route_new) least))

-- the least walk to one listener is a tree by itself
one_fan : (topology : DeclaredTopology) (talker l : ℕ) (r : List ℕ) → IsLeastWalk topology.ports talker l r
    → IsValidPath topology r → Fan topology talker (l ∷ []) (r ∷ [])
one_fan topology talker l r least valid =
    let at : (n : ℕ) → n ≤ 0 → 0 ≡ n = λ n h. omega (arith, h) in
    record {
      ports = r;
      branches = [];
      fan = record {
        are = no_branches r;
        tree = record { trunk = valid; each = λ n within. absurd (omega arith); apart = valid.apart };
        talker_is = talker_of topology talker l r least valid valid.some;
        many = refl;
        routes_are = refl;
        least = λ n h. subst (λ (k : ℕ). IsLeastWalk topology.ports talker (get_or (l ∷ []) k 0) (route_at r [] k))
            (at n h) least;
      };
    }

-- where no walk ends at a node of another one, the next one is fresh
fresh_walk : (topology : DeclaredTopology) (talker l : ℕ) (done : List ℕ) (routes : List (List ℕ)) (r : List ℕ)
    (walks : List (List ℕ)) (f : Fan topology talker done routes) → IsLeastWalk topology.ports talker l r
    → 0 < length r → EndApart topology (routes ++ r ∷ walks) → IsFresh topology l done f.ports f.branches r
fresh_walk topology talker l done routes r walks f least some apart = record {
  others = λ n h. subst (λ (path : List ℕ). Avoids P path l) (there n h)
      (subst (λ (e : ℕ). Avoids P (get_or all n []) e) last_end
      (apart (length routes) n (omega (arith, long)) (omega (arith, h, many, long))
      (λ same. omega (arith, same, h, many))));
  own = λ n h. subst (λ (path : List ℕ). Avoids P path (get_or done n 0)) last
      (subst (λ (e : ℕ). Avoids P (get_or all (length routes) []) e) (end_at n h)
      (apart n (length routes) (omega (arith, h, many, long)) (omega (arith, long))
      (λ same. omega (arith, same, h, many))));
}
  where
    P : List Port
    P = topology.ports

    all : List (List ℕ)
    all = routes ++ r ∷ walks

    long : length (routes ++ r ∷ walks) ≡ length routes + suc (length walks)
    long = length-append routes (r ∷ walks)

    many : length routes ≡ suc (length f.branches)
    many = ap (λ (rs : List (List ℕ)). length rs) (sym f.fan.routes_are) ∙ routes-length f.ports f.branches

    last : get_or (routes ++ r ∷ walks) (length routes) [] ≡ r
    last = get_or-append_seam routes r walks []

    last_end : end_of topology.ports (get_or (routes ++ r ∷ walks) (length routes) []) ≡ l
    last_end = ap (end_of P) last ∙ walk_ends P talker l r least.walk_is some

    there : (n : ℕ) → n ≤ length f.branches
        → get_or (routes ++ r ∷ walks) n [] ≡ route_at f.ports f.branches n
    there n h = get_or_append_left routes (r ∷ walks) [] n (omega (arith, h, many))
        ∙ ap (λ (rs : List (List ℕ)). get_or rs n []) (sym f.fan.routes_are) ∙ route-at f.ports f.branches n [] h

    end_at : (n : ℕ) → n ≤ length f.branches
        → end_of topology.ports (get_or (routes ++ r ∷ walks) n []) ≡ get_or done n 0
    end_at n h = ap (end_of P) (there n h)
        ∙ walk_ends P talker (get_or done n 0) (route_at f.ports f.branches n) (f.fan.least n h).walk_is
        (route_leads topology f.ports f.branches f.fan.are f.fan.tree n h).some

-- a fan grows by one walk after another
grow_all : (topology : DeclaredTopology) (talker : ℕ) (done : List ℕ) (routes : List (List ℕ)) (listeners : List ℕ)
    (walks : List (List ℕ)) → Fan topology talker done routes → AreLeast topology talker listeners walks
    → EndApart topology (routes ++ walks) → length (done ++ listeners) ≤ 65536
    → MakesTree topology (routes ++ walks)
grow_all topology talker done routes [] [] fan least apart few = record {
  ports = fan.ports;
  branches = fan.branches;
  are = fan.fan.are;
  tree = fan.fan.tree;
  routes_are = fan.fan.routes_are ∙ sym (append-nil routes);
}
grow_all topology talker done routes [] (r ∷ walks) fan least apart few = absurd least
grow_all topology talker done routes (l ∷ listeners) [] fan least apart few = absurd least
grow_all topology talker done routes (l ∷ listeners) (r ∷ walks) fan least apart few =
    let long : length (done ++ l ∷ listeners) ≡ length done + suc (length listeners) =
    length-append done (l ∷ listeners) in
    let next : Fan topology talker (done ++ l ∷ []) (routes ++ r ∷ []) =
    grow topology talker l done routes fan.ports fan.branches r fan.fan least.0.0 least.0.1
    (fresh_walk topology talker l done routes r walks fan least.0.0 least.0.1.some apart)
    (omega (arith, fan.fan.many, few, long)) in
    let on : (done ++ l ∷ []) ++ listeners ≡ done ++ l ∷ listeners = append_assoc done (l ∷ []) listeners in
    subst (MakesTree topology) (append_assoc routes (r ∷ []) walks)
    (grow_all topology talker (done ++ l ∷ []) (routes ++ r ∷ []) listeners walks next least.1
    (subst (EndApart topology) (sym (append_assoc routes (r ∷ []) walks)) apart)
    (subst (λ (ls : List ℕ). length ls ≤ 65536) (sym on) few))

pub least_walks_make_a_tree : LeastWalksMakeATree
least_walks_make_a_tree topology talker l listeners r walks least few = (
  λ makes. made_ends_apart topology makes.ports makes.branches (r ∷ walks) makes.are makes.tree makes.routes_are,
  λ apart. grow_all topology talker (l ∷ []) (r ∷ []) listeners walks
      (one_fan topology talker l r least.0.0 least.0.1) least.1 apart few,
)
