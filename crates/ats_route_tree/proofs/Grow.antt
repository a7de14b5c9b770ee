-- Legs with a branch for one route more.
use Rattle.std.proofs.Common.{◌≡◌, ◌≢◌, ℕ, zero, suc, ◌+◌, ◌-◌, ◌<◌, ◌≤◌, Bool, true, false, cond, ◌&&◌, List, []}
use Rattle.std.proofs.Common.{◌∷◌, ◌++◌, length, take, drop, get_or, ◌⊎◌, inl, inr, Option, Some, None, refl, sym, ap}
use Rattle.std.proofs.Common.{subst, ◌∙◌, arith, eqb, ltb, length-append, length-drop, length-take}
use Rattle.std.specs.Prelude.{option_and_then}
use Rattle.std.specs.List.{AllPairs}
use Rattle.std.specs.Str.{bytes_eq}
use Rattle.std.proofs.Math.Seq.{get_or-append_seam, take-append-add}
use Rattle.std.proofs.lemmas.Bool.{and_parts, cases_lt, ltb-true}
use Rattle.std.proofs.lemmas.List.{get_or-append-add, get_or-drop, get_or-take, get_or_append_left, length-take-le}
use Rattle.std.proofs.lemmas.List.{take-append-drop}
use Rattle.std.proofs.lemmas.Option.{none-some, same_Some}
use Rattle.ats_facts.proofs.Bytes.{bytes_eq-true}
use Rattle.ats_streams.specs.Branches.{AreBranches, BeginsEarlier, first_from, lead_to, leads_of, leg_at, legs_of}
use Rattle.ats_streams.specs.Branches.{no_branch, routes_of}
use Rattle.ats_streams.specs.declared.branch.Branch.{Branch}
use Rattle.ats_streams.proofs.BranchLemmas.{begins_at, lead_of_trunk, legs-length, route-at, routes-length}
use Rattle.ats_streams.proofs.BranchLemmas.{trunk_within}
use Rattle.ats_topology.specs.Port.{leads_to, port_at}
use Rattle.ats_topology.specs.Topology.{DeclaredTopology}
use Rattle.ats_topology.specs.Walks.{IsWalk}
use Rattle.ats_topology.specs.declared.port.Port.{Port}
use Rattle.ats_network.specs.Ends.{beginning_of}
use Rattle.ats_network.specs.Path.{IsBranch, IsTree, IsValidPath, node_of_branch, nodes_along}
use Rattle.ats_network.proofs.Grown.{Grows, grows}
use Rattle.ats_network.proofs.LeastWalkLemmas.{walk_rest}
use Rattle.ats_network.proofs.PathLemmas.{nodes_to}
use Rattle.ats_network.proofs.EndsApart.{one_place}
use Rattle.ats_network.proofs.ValidRoutes.{each_route_is_a_path, from_talker, nodes_apart, part_apart}
use Rattle.ats_network.proofs.ValidRoutes.{route_begins, walk_first}
use Rattle.std.proofs.lemmas.Bool.{eqb-true}
use Rattle.ats_route_tree.specs.Legs.{DeclaredLegs, HaveRoutes}
use Rattle.ats_route_tree.specs.Steps.{branch_behind, branch_first, goes_off, goes_off_first, grown, grown_where}
use Rattle.ats_route_tree.specs.Steps.{known_ports, leg_with, node_after, place_to, with_known, with_route}
use Rattle.ats_route_tree.proofs.Apart.{apart_more, part_drop, to_apart}
use Rattle.ats_route_tree.proofs.Known.{AreKnown, are_known}
use Rattle.ats_route_tree.proofs.Places.{HasPlace, IsFound, found, has_place}

-- a route goes off behind the port at a place, by its tests
record IsOff (topology : DeclaredTopology) (legs : DeclaredLegs) (route : List ℕ) (count : ℕ) (next : DeclaredLegs) :
    Type 0
  where
    place : ℕ
    there : place_to topology.ports (node_after topology.ports route count) legs.ports ≡ Some place
    passes : goes_off legs route count (branch_behind legs place) ≡ true
    next_is : grown legs route count (branch_behind legs place) ≡ next

-- what these tests say
record Tested (legs : DeclaredLegs) (route : List ℕ) (count : ℕ) (b : Branch) : Type 0 where
  some : 0 < count
  below : count < length route
  within : b.hop < length (leg_at (legs_of legs.ports legs.branches) b.leg)
  same : take count route ≡ take count (leg_at (routes_of legs.ports legs.branches) b.leg)
  few : length legs.branches < 65535

tested : (legs : DeclaredLegs) (route : List ℕ) (count : ℕ) (b : Branch) → goes_off legs route count b ≡ true
    → Tested legs route count b
tested legs route count b passes =
    let leg : List ℕ = leg_at (legs_of legs.ports legs.branches) b.leg in
    let other : List ℕ = leg_at (routes_of legs.ports legs.branches) b.leg in
    let alike : Bool = bytes_eq (take count route) (take count other) in
    let few : Bool = ltb (length legs.branches) 65535 in
    let one : (ltb 0 count ≡ true) × ((ltb count (length route) && (ltb b.hop (length leg) && (alike && few))) ≡ true) =
    and_parts (ltb 0 count) (ltb count (length route) && (ltb b.hop (length leg) && (alike && few))) passes in
    let two : (ltb count (length route) ≡ true) × ((ltb b.hop (length leg) && (alike && few)) ≡ true) =
    and_parts (ltb count (length route)) (ltb b.hop (length leg) && (alike && few)) one.1 in
    let three : (ltb b.hop (length leg) ≡ true) × ((alike && few) ≡ true) =
    and_parts (ltb b.hop (length leg)) (alike && few) two.1 in
    let four : (alike ≡ true) × (few ≡ true) = and_parts alike few three.1 in
    record {
      some = ltb-true 0 count one.0;
      below = ltb-true count (length route) two.0;
      within = ltb-true b.hop (length leg) three.0;
      same = bytes_eq-true (take count route) (take count other) four.0;
      few = ltb-true (length legs.branches) 65535 four.1;
    }

off : (topology : DeclaredTopology) (legs : DeclaredLegs) (route : List ℕ) (n : ℕ) (next : DeclaredLegs)
    → with_known topology legs route (suc n) ≡ Some next → IsOff topology legs route (suc n) next
off topology legs route n next h =
    by (place_to topology.ports (node_after topology.ports route (suc n)) legs.ports) refl h
  where
    count : ℕ
    count = suc n

    at : (place : ℕ) → place_to topology.ports (node_after topology.ports route count) legs.ports ≡ Some place
        → (t : Bool) → goes_off legs route count (branch_behind legs place) ≡ t
        → cond t (Some (grown legs route count (branch_behind legs place))) None ≡ Some next
        → IsOff topology legs route count next
    at place e true passes h = record {
      place = place;
      there = e;
      passes = passes;
      next_is = same_Some (grown legs route count (branch_behind legs place)) next h;
    }
    at place e false fails h = absurd (none-some next h)

    by : (o : Option ℕ) → place_to topology.ports (node_after topology.ports route count) legs.ports ≡ o
        → option_and_then (λ place. grown_where legs route count (branch_behind legs place)) o ≡ Some next
        → IsOff topology legs route count next
    by None e h = absurd (none-some next h)
    by (Some place) e h = at place e (goes_off legs route count (branch_behind legs place)) refl h

-- what is known of a route that goes off: its first ports are those in front of the branch, and the others lead on from
-- where the branch begins
record Leaves (topology : DeclaredTopology) (ports : List ℕ) (branches : List Branch) (route : List ℕ)
    (listener count : ℕ) (b : Branch) : Type 0
  where
    begins : BeginsEarlier (legs_of ports branches) (1 + length branches) b
    last : b.first ≡ length ports
    below : count < length route
    few : length branches < 65535
    front : take count route ≡ lead_to (legs_of ports branches) (leads_of ports branches) b
    walk : IsWalk topology.ports (node_of_branch topology.ports (legs_of ports branches) b) listener (drop count route)
    first : (port_at topology.ports (get_or route 0 0)).from ≡ (port_at topology.ports (get_or ports 0 0)).from

leaves : (topology : DeclaredTopology) (ports : List ℕ) (branches : List Branch) (route : List ℕ) (count place : ℕ)
    → AreBranches ports branches → IsTree topology ports branches → (valid : IsValidPath topology route)
    → place_to topology.ports (node_after topology.ports route count) ports ≡ Some place
    → Tested (record { ports = ports; branches = branches }) route count
    (branch_behind (record { ports = ports; branches = branches }) place)
    → Leaves topology ports branches route valid.listener count
    (branch_behind (record { ports = ports; branches = branches }) place)
leaves topology ports branches route count place are tree valid there t = record {
  begins = record {
    earlier = omega (arith, on.inside);
    at_talker = λ zero. absurd (omega (arith, zero));
    within = t.within;
  };
  last = refl;
  below = t.below;
  few = t.few;
  front = t.same ∙ ap (λ (r : List ℕ). take count r) other_is ∙ ap (λ (n : ℕ). take n (lead ++ leg)) count_is
      ∙ take-append-add lead leg (suc hop);
  walk = walk;
  first = first;
}
  where
    legs : List (List ℕ)
    legs = legs_of ports branches

    n : ℕ
    n = leg_with branches place

    f : IsFound (λ p. leads_to (node_after topology.ports route count) (port_at topology.ports p)) ports 0 place
    f = found (λ p. leads_to (node_after topology.ports route count) (port_at topology.ports p)) 0 ports place there

    place_is : f.place ≡ place
    place_is = omega (arith, f.is)

    leads : (port_at topology.ports (get_or ports place 0)).to ≡ node_after topology.ports route count
    leads = subst (λ (i : ℕ). (port_at topology.ports (get_or ports i 0)).to ≡ node_after topology.ports route count)
        place_is (eqb-true (port_at topology.ports (get_or ports f.place 0)).to (node_after topology.ports route count)
        f.passes)

    on : HasPlace 0 ports branches place n
    on = has_place 0 ports branches place are.places (omega arith) (omega (arith, f.within, place_is))

    hop : ℕ
    hop = place - first_from 0 branches n

    lead : List ℕ
    lead = leg_at (leads_of ports branches) n

    leg : List ℕ
    leg = leg_at legs n

    other : List ℕ
    other = leg_at (routes_of ports branches) n

    other_is : other ≡ lead ++ leg
    other_is = route-at ports branches n [] on.inside

    other_valid : IsValidPath topology (lead ++ leg)
    other_valid = subst (IsValidPath topology) other_is
        (each_route_is_a_path topology ports branches are tree n []
        (omega (arith, on.inside, routes-length ports branches)))

    long : length (take count route) ≡ count
    long = length-take-le count route (omega (arith, t.below))

    enough : count ≤ length (lead ++ leg)
    enough = omega (
      arith,
      long,
      ap (λ (l : List ℕ). length l) t.same,
      length-take count other,
      ap (λ (l : List ℕ). length l) other_is,
    )

    -- the ports of both routes are the same
    common : (i : ℕ) → i < count → get_or route i 0 ≡ get_or (lead ++ leg) i 0
    common i below = sym (get_or-take count route i 0 below) ∙ ap (λ (l : List ℕ). get_or l i 0) t.same
        ∙ get_or-take count other i 0 below ∙ ap (λ (l : List ℕ). get_or l i 0) other_is

    -- the last known port is the one at the place, since both lead to one node
    last : length lead + hop ≡ count - 1
    last = one_place topology.ports (lead ++ leg) (length lead + hop) (count - 1)
        (to_apart topology.ports (lead ++ leg) other_valid.apart)
        (omega (arith, on.within, length-append lead leg)) (omega (arith, enough, t.some))
        (ap (λ (p : ℕ). (port_at topology.ports p).to) (get_or-append-add lead leg hop 0 ∙ on.port) ∙ leads
        ∙ ap (λ (p : ℕ). (port_at topology.ports p).to) (common (count - 1) (omega (arith, t.some))))

    count_is : count ≡ length lead + suc hop
    count_is = omega (arith, last, t.some)

    next_at : get_or (drop count (lead ++ leg)) 0 0 ≡ get_or leg (suc hop) 0
    next_at =
        let at : count + 0 ≡ length lead + suc hop = omega (arith, count_is) in
        get_or-drop count (lead ++ leg) 0 0 ∙ ap (λ (i : ℕ). get_or (lead ++ leg) i 0) at
        ∙ get_or-append-add lead leg (suc hop) 0

    from : (port_at topology.ports (get_or leg (suc hop) 0)).from
        ≡ (port_at topology.ports (get_or route (count - 1) 0)).to
    from =
        let next : suc (count - 1) ≡ count = omega (arith, t.some) in
        let rest : IsWalk topology.ports (port_at topology.ports (get_or (lead ++ leg) (count - 1) 0)).to
        other_valid.listener (drop count (lead ++ leg)) =
        subst (λ (i : ℕ). IsWalk topology.ports (port_at topology.ports (get_or (lead ++ leg) (count - 1) 0)).to
        other_valid.listener (drop i (lead ++ leg))) next
        (walk_rest topology.ports other_valid.talker other_valid.listener (lead ++ leg) (count - 1) other_valid.walk
        (omega (arith, enough, t.some))) in
        let more : count < length (lead ++ leg) = omega (arith, count_is, t.within, length-append lead leg) in
        ap (λ (p : ℕ). (port_at topology.ports p).from) (sym next_at)
        ∙ walk_first topology.ports (port_at topology.ports (get_or (lead ++ leg) (count - 1) 0)).to
        other_valid.listener (drop count (lead ++ leg)) rest
        (omega (arith, more, length-drop count (lead ++ leg)))
        ∙ ap (λ (p : ℕ). (port_at topology.ports p).to) (sym (common (count - 1) (omega (arith, t.some))))

    -- what is left of the route leads on from there
    walk : IsWalk topology.ports (port_at topology.ports (get_or (leg_at (legs_of ports branches) n) (suc hop) 0)).from
        valid.listener (drop count route)
    walk = let next : suc (count - 1) ≡ count = omega (arith, t.some) in
        subst (λ (k : ℕ). IsWalk topology.ports k valid.listener (drop count route)) (sym from)
        (subst (λ (k : ℕ). IsWalk topology.ports (port_at topology.ports (get_or route (count - 1) 0)).to
        valid.listener (drop k route)) next
        (walk_rest topology.ports valid.talker valid.listener route (count - 1) valid.walk
        (omega (arith, t.some, t.below))))

    first : (port_at topology.ports (get_or route 0 0)).from ≡ (port_at topology.ports (get_or ports 0 0)).from
    first = ap (λ (p : ℕ). (port_at topology.ports p).from) (common 0 t.some)
        ∙ route_begins topology ports branches are tree n on.inside
        ∙ sym (from_talker topology ports branches tree tree.trunk.some)

-- a route goes off from legs, with one more branch
record GoesOff (topology : DeclaredTopology) (legs : DeclaredLegs) (route : List ℕ) (listener count : ℕ)
    (next : DeclaredLegs) : Type 0
  where
    b : Branch
    leaves : Leaves topology legs.ports legs.branches route listener count b
    next_is : grown legs route count b ≡ next

-- at the talker
leaves_first : (topology : DeclaredTopology) (legs : DeclaredLegs) (route : List ℕ)
    → IsTree topology legs.ports legs.branches → (valid : IsValidPath topology route)
    → goes_off_first topology.ports legs route ≡ true
    → Leaves topology legs.ports legs.branches route valid.listener 0 (branch_first legs)
leaves_first topology legs route tree valid passes = record {
  begins = record { earlier = omega arith; at_talker = λ zero. refl; within = tree.trunk.some };
  last = refl;
  below = valid.some;
  few = ltb-true (length legs.branches) 65535 parts.1;
  front = sym (ap (λ (lead : List ℕ). lead ++ []) (lead_of_trunk legs.ports legs.branches));
  walk = subst (λ (n : ℕ). IsWalk P n valid.listener route)
      (sym (walk_first P valid.talker valid.listener route valid.walk valid.some) ∙ same
      ∙ from_talker topology legs.ports legs.branches tree tree.trunk.some
      ∙ sym (walk_first P tree.trunk.talker tree.trunk.listener (leg_at (legs_of legs.ports legs.branches) 0)
      tree.trunk.walk tree.trunk.some)) valid.walk;
  first = same;
}
  where
    P : List Port
    P = topology.ports

    a : ℕ
    a = beginning_of topology.ports route

    z : ℕ
    z = beginning_of topology.ports legs.ports

    parts : (eqb (beginning_of topology.ports route) (beginning_of topology.ports legs.ports) ≡ true)
        × (ltb (length legs.branches) 65535 ≡ true)
    parts = and_parts (eqb a z) (ltb (length legs.branches) 65535) passes

    same : (port_at topology.ports (get_or route 0 0)).from ≡ (port_at topology.ports (get_or legs.ports 0 0)).from
    same = eqb-true a z parts.0

goes_by : (topology : DeclaredTopology) (legs : DeclaredLegs) (route : List ℕ) (count : ℕ) (next : DeclaredLegs)
    → AreBranches legs.ports legs.branches → IsTree topology legs.ports legs.branches
    → (valid : IsValidPath topology route) → with_known topology legs route count ≡ Some next
    → GoesOff topology legs route valid.listener count next
goes_by topology legs route zero next are tree valid h = by (goes_off_first topology.ports legs route) refl h
  where
    by : (t : Bool) → goes_off_first topology.ports legs route ≡ t
        → cond t (Some (grown legs route 0 (branch_first legs))) None ≡ Some next
        → GoesOff topology legs route valid.listener 0 next
    by true e h = record {
      b = branch_first legs;
      leaves = leaves_first topology legs route tree valid e;
      next_is = same_Some (grown legs route 0 (branch_first legs)) next h;
    }
    by false e h = absurd (none-some next h)
goes_by topology legs route (suc n) next are tree valid h =
    let o : IsOff topology legs route (suc n) next = off topology legs route n next h in
    record {
      b = branch_behind legs o.place;
      leaves = leaves topology legs.ports legs.branches route (suc n) o.place are tree valid o.there
          (tested legs route (suc n) (branch_behind legs o.place) o.passes);
      next_is = o.next_is;
    }

-- legs with a branch for a route that goes off from them have its route too
pub grow : (topology : DeclaredTopology) (routes : List (List ℕ)) (legs : DeclaredLegs) (route : List ℕ)
    (next : DeclaredLegs) → HaveRoutes topology routes legs → IsValidPath topology route
    → with_route topology legs route ≡ Some next → HaveRoutes topology (routes ++ route ∷ []) next
grow topology routes old route next have valid h =
    subst (HaveRoutes topology (routes ++ route ∷ [])) off_at.next_is (record {
      are = g.are;
      tree = record { trunk = trunk; each = each; apart = apart };
      routes_are = g.routes ∙ ap (λ (rs : List (List ℕ)). rs ++ (lead_to legs (leads_of ports branches) b ++ own) ∷ [])
          have.routes_are ∙ ap (λ (x : List ℕ). routes ++ x ∷ []) whole;
    })
  where
    ports : List ℕ
    ports = old.ports

    branches : List Branch
    branches = old.branches

    tree : IsTree topology ports branches
    tree = have.tree

    count : ℕ
    count = known_ports topology.ports ports route

    known : AreKnown topology.ports ports route count
    known = are_known topology.ports ports route

    off_at : GoesOff topology old route valid.listener count next
    off_at = goes_by topology old route count next have.are tree valid h

    b : Branch
    b = off_at.b

    t : Leaves topology ports branches route valid.listener count b
    t = off_at.leaves

    own : List ℕ
    own = drop count route

    legs : List (List ℕ)
    legs = legs_of ports branches

    some_trunk : 0 < length (leg_at legs 0)
    some_trunk = tree.trunk.some

    some_ports : 1 ≤ length ports
    some_ports = omega (arith, some_trunk, trunk_within ports branches)

    g : Grows ports own branches b
    g = grows ports own branches b have.are some_ports (omega (arith, t.below, length-drop count route)) t.last
        t.begins (omega (arith, t.few))

    whole : lead_to legs (leads_of ports branches) b ++ own ≡ route
    whole = ap (λ (l : List ℕ). l ++ own) (sym t.front) ∙ take-append-drop count route

    many : length legs ≡ suc (length branches)
    many = legs-length 0 ports branches

    same : (n : ℕ) → n ≤ length branches → leg_at (legs_of (ports ++ own) (branches ++ b ∷ [])) n ≡ leg_at legs n
    same n h = ap (λ (ls : List (List ℕ)). leg_at ls n) g.legs
        ∙ get_or_append_left legs (own ∷ []) [] n (omega (arith, h, many))

    new : leg_at (legs_of (ports ++ own) (branches ++ b ∷ [])) (1 + length branches) ≡ own
    new = let at : 1 + length branches ≡ length legs = omega (arith, many) in
        ap (λ (ls : List (List ℕ)). leg_at ls (1 + length branches)) g.legs
        ∙ ap (λ (n : ℕ). leg_at (legs ++ own ∷ []) n) at ∙ get_or-append_seam legs own [] []

    trunk : IsValidPath topology (leg_at (legs_of (ports ++ own) (branches ++ b ∷ [])) 0)
    trunk = subst (IsValidPath topology) (sym (same 0 (omega arith))) tree.trunk

    -- the branch leads from the node where the route goes off
    own_walk : IsWalk topology.ports (node_of_branch topology.ports legs b) valid.listener own
    own_walk = t.walk

    starts : (c : Branch) → c.leg ≤ length branches
        → node_of_branch topology.ports (legs_of (ports ++ own) (branches ++ b ∷ [])) c
        ≡ node_of_branch topology.ports legs c
    starts c h = ap (λ (path : List ℕ). (port_at topology.ports (get_or path c.hop 0)).from) (same c.leg h)

    each : (n : ℕ) → n < length (branches ++ b ∷ []) → IsBranch topology
        (legs_of (ports ++ own) (branches ++ b ∷ [])) (get_or (branches ++ b ∷ []) n no_branch)
        (leg_at (legs_of (ports ++ own) (branches ++ b ∷ [])) (1 + n))
    each n h = by (cases_lt n (length branches))
      where
        by : (n < length branches) ⊎ (length branches ≤ n) → IsBranch topology
            (legs_of (ports ++ own) (branches ++ b ∷ [])) (get_or (branches ++ b ∷ []) n no_branch)
            (leg_at (legs_of (ports ++ own) (branches ++ b ∷ [])) (1 + n))
        by (inl below) =
            let c : Branch = get_or branches n no_branch in
            let c_is : get_or (branches ++ b ∷ []) n no_branch ≡ c =
            get_or_append_left branches (b ∷ []) no_branch n below in
            let first : IsBranch topology legs c (leg_at legs (1 + n)) = tree.each n below in
            let begun : BeginsEarlier legs (1 + n) c = begins_at legs 1 branches n have.are.begin below in
            subst (λ (d : Branch). IsBranch topology (legs_of (ports ++ own) (branches ++ b ∷ [])) d
            (leg_at (legs_of (ports ++ own) (branches ++ b ∷ [])) (1 + n))) (sym c_is) (record {
              listener = first.listener;
              walk = subst (λ (path : List ℕ). IsWalk topology.ports (node_of_branch topology.ports
                  (legs_of (ports ++ own) (branches ++ b ∷ [])) c) first.listener path)
                  (sym (same (1 + n) (omega (arith, below))))
                  (subst (λ (start : ℕ). IsWalk topology.ports start first.listener (leg_at legs (1 + n)))
                  (sym (starts c (omega (arith, begun.earlier, below)))) first.walk);
            })
        by (inr past) =
            let at : length branches ≡ n = omega (arith, past, h, length-append branches (b ∷ [])) in
            subst (λ (k : ℕ). IsBranch topology (legs_of (ports ++ own) (branches ++ b ∷ []))
            (get_or (branches ++ b ∷ []) k no_branch) (leg_at (legs_of (ports ++ own) (branches ++ b ∷ [])) (1 + k))) at
            (subst (λ (d : Branch). IsBranch topology (legs_of (ports ++ own) (branches ++ b ∷ [])) d
            (leg_at (legs_of (ports ++ own) (branches ++ b ∷ [])) (1 + length branches)))
            (sym (get_or-append_seam branches b [] no_branch)) (record {
              listener = valid.listener;
              walk = subst (λ (path : List ℕ). IsWalk topology.ports (node_of_branch topology.ports
                  (legs_of (ports ++ own) (branches ++ b ∷ [])) b) valid.listener path) (sym new)
                  (subst (λ (start : ℕ). IsWalk topology.ports start valid.listener own)
                  (sym (starts b (omega (arith, t.begins.earlier)))) own_walk);
            }))

    -- the nodes of the route, and those of them that its own ports lead to
    talker_is : (port_at topology.ports (get_or ports 0 0)).from ≡ tree.trunk.talker
    talker_is = from_talker topology ports branches tree some_trunk

    nodes : AllPairs (λ x y. x ≢ y) (tree.trunk.talker ∷ nodes_to topology.ports route)
    nodes = nodes_apart topology.ports tree.trunk.talker route
        (t.first ∙ talker_is) valid.apart

    own_nodes : AllPairs (λ x y. x ≢ y) (tree.trunk.talker ∷ nodes_to topology.ports own)
    own_nodes = part_apart topology.ports tree.trunk.talker own route (part_drop count route) nodes

    apart : AllPairs (λ x y. x ≢ y) (nodes_along topology.ports (ports ++ own))
    apart = apart_more topology.ports tree.trunk.talker ports own (omega (arith, some_ports)) talker_is tree.apart
        own_nodes known.out
