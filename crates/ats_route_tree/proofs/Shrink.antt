-- Legs without their last branch, which is found again by its route.
use Rattle.std.proofs.Common.{◌≡◌, ℕ, suc, ◌+◌, ◌-◌, ◌<◌, ◌≤◌, Bool, true, false, cond, ◌&&◌, List, []}
use Rattle.std.proofs.Common.{◌∷◌, ◌++◌, length, take, drop, get_or, Some, None, refl, sym, ap, ◌⊎◌, inl, inr}
use Rattle.std.proofs.Common.{subst, ◌∙◌, arith, eqb, ltb, length-append, length-drop, length-take}
use Rattle.std.specs.Prelude.{option_and_then}
use Rattle.std.specs.List.{All, slice_range}
use Rattle.std.specs.Str.{bytes_eq}
use Rattle.std.proofs.Math.Seq.{drop-append_seam, get_or-append_seam, take-append-add, take-append_seam}
use Rattle.std.proofs.lemmas.Bool.{and_from, eq-eqb, lt-ltb}
use Rattle.std.proofs.lemmas.List.{drop-append-le, get_or-append-add, get_or-take, get_or_append_left, take-append-le}
use Rattle.ats_facts.proofs.Bytes.{bytes_eq-same}
use Rattle.ats_streams.specs.Branches.{AreBranches, Ascend, BeginEarlier, BeginsEarlier, first_from, lead_to, leads_of}
use Rattle.ats_streams.specs.Branches.{leg_at, legs_from, legs_of, no_branch, routes_of}
use Rattle.ats_streams.specs.declared.branch.Branch.{Branch}
use Rattle.ats_streams.proofs.BranchLemmas.{begins_at, behind_or_talker, lead_of_trunk, legs-length, route-at}
use Rattle.ats_streams.proofs.Places.{IsPlace, is_place}
use Rattle.ats_topology.specs.Port.{port_at}
use Rattle.ats_topology.specs.Topology.{DeclaredTopology}
use Rattle.ats_topology.specs.Walks.{IsWalk}
use Rattle.ats_topology.specs.declared.port.Port.{Port}
use Rattle.ats_network.specs.Ends.{beginning_of}
use Rattle.ats_network.specs.Path.{IsBranch, IsTree, IsValidPath, node_of_branch}
use Rattle.ats_network.proofs.Grown.{Grows, grows}
use Rattle.ats_network.proofs.LeastWalkLemmas.{own_node}
use Rattle.ats_network.proofs.ValidRoutes.{from_talker, walk_first}
use Rattle.ats_route_tree.specs.Legs.{DeclaredLegs}
use Rattle.ats_route_tree.specs.Steps.{branch_behind, branch_first, branch_on, goes_off, goes_off_first, grown}
use Rattle.ats_route_tree.specs.Steps.{grown_where, known_ports, leg_with, node_after, place_to, with_known, with_route}
use Rattle.ats_route_tree.proofs.Apart.{behind_out, front_apart, to_apart}
use Rattle.ats_route_tree.proofs.Known.{is_in, known_are, known_more, none_known}
use Rattle.ats_route_tree.proofs.Places.{leg_is, place_own}

-- branches whose ports ascend, without the last one
pub record AscendsTo (at : ℕ) (branches : List Branch) (b : Branch) (end : ℕ) : Type 0 where
  pub front : Ascend at branches b.first
  pub before : at < b.first
  pub below : b.first < end

pub ascends_to : (at : ℕ) (branches : List Branch) (b : Branch) (end : ℕ) → Ascend at (branches ++ b ∷ []) end
    → AscendsTo at branches b end
ascends_to at [] b end ascend = record { front = tt; before = ascend.0; below = ascend.1 }
ascends_to at (c ∷ branches) b end ascend =
    let rest : AscendsTo c.first branches b end = ascends_to c.first branches b end ascend.2 in
    record {
      front = (ascend.0, rest.before, rest.front);
      before = omega (arith, ascend.0, rest.before);
      below = rest.below;
    }

legs_grow : (at : ℕ) (ports own : List ℕ) (branches : List Branch) (b : Branch) → Ascend at branches (length ports)
    → at ≤ length ports → b.first ≡ length ports
    → legs_from at (ports ++ own) (branches ++ b ∷ []) ≡ legs_from at ports branches ++ own ∷ []
legs_grow at ports own [] b ascend within last =
    let rest : drop at (ports ++ own) ≡ drop at ports ++ own = drop-append-le at ports own within in
    let many : b.first - at ≡ length (drop at ports) = omega (arith, last, within, length-drop at ports) in
    let front : slice_range (ports ++ own) at b.first ≡ drop at ports =
    ap (λ (l : List ℕ). take (b.first - at) l) rest
    ∙ ap (λ (n : ℕ). take n (drop at ports ++ own)) many
    ∙ take-append_seam (drop at ports) own in
    let back : drop b.first (ports ++ own) ≡ own =
    ap (λ (n : ℕ). drop n (ports ++ own)) last ∙ drop-append_seam ports own in
    ap (λ (l : List ℕ). l ∷ drop b.first (ports ++ own) ∷ []) front
    ∙ ap (λ (l : List ℕ). drop at ports ∷ l ∷ []) back
legs_grow at ports own (c ∷ branches) b ascend within last =
    let rest : drop at (ports ++ own) ≡ drop at ports ++ own = drop-append-le at ports own within in
    let front : slice_range (ports ++ own) at c.first ≡ slice_range ports at c.first =
    ap (λ (l : List ℕ). take (c.first - at) l) rest
    ∙ take-append-le (c.first - at) (drop at ports) own (omega (arith, ascend.1, length-drop at ports)) in
    ap (λ (l : List ℕ). l ∷ legs_from c.first (ports ++ own) (branches ++ b ∷ [])) front
    ∙ ap (λ (l : List (List ℕ)). slice_range ports at c.first ∷ l)
    (legs_grow c.first ports own branches b ascend.2 (omega (arith, ascend.1)) last)

record BeginFront (legs : List (List ℕ)) (number : ℕ) (branches : List Branch) (b : Branch) : Type 0 where
  front : BeginEarlier legs number branches
  last : BeginsEarlier legs (number + length branches) b

fewer : (legs : List (List ℕ)) (own : List ℕ) (number : ℕ) (c : Branch) → BeginsEarlier (legs ++ own ∷ []) number c
    → number ≤ length legs → BeginsEarlier legs number c
fewer legs own number c begins many = record {
  earlier = begins.earlier;
  at_talker = begins.at_talker;
  within = subst (λ (l : List ℕ). c.hop < length l)
      (get_or_append_left legs (own ∷ []) [] c.leg (omega (arith, begins.earlier, many))) begins.within;
}

begin_front : (legs : List (List ℕ)) (own : List ℕ) (number : ℕ) (branches : List Branch) (b : Branch)
    → BeginEarlier (legs ++ own ∷ []) number (branches ++ b ∷ []) → number + length branches ≤ length legs
    → BeginFront legs number branches b
begin_front legs own number [] b begin many = record {
  front = tt;
  last = subst (λ (k : ℕ). BeginsEarlier legs k b) (omega arith)
      (fewer legs own number b begin.0 (omega (arith, many)));
}
begin_front legs own number (c ∷ branches) b begin many =
    let rest : BeginFront legs (number + 1) branches b =
    begin_front legs own (number + 1) branches b begin.1 (omega (arith, many)) in
    record {
      front = (fewer legs own number c begin.0 (omega (arith, many)), rest.front);
      last = subst (λ (k : ℕ). BeginsEarlier legs k b) (omega arith) rest.last;
    }

abbrev made : ℕ → ℕ → ℕ → Branch
made first leg hop = record { first = first; leg = leg; hop = hop }

branch_is : (b : Branch) (first leg hop : ℕ) → first ≡ b.first → leg ≡ b.leg → hop ≡ b.hop → made first leg hop ≡ b
branch_is b first leg hop f l h =
    ap (λ (n : ℕ). made n leg hop) f ∙ ap (λ (n : ℕ). made b.first n hop) l ∙ ap (λ (n : ℕ). made b.first b.leg n) h

-- the legs with a branch more
abbrev pub with_branch : List ℕ → List ℕ → List Branch → Branch → DeclaredLegs
with_branch ports own branches b = record { ports = ports ++ own; branches = branches ++ b ∷ [] }

-- a branch behind a port of its leg is found again by its route
again_behind : (topology : DeclaredTopology) (ports own : List ℕ) (branches : List Branch) (b : Branch)
    → AreBranches ports branches → IsTree topology ports branches
    → BeginsEarlier (legs_of ports branches) (1 + length branches) b
    → All (λ p. is_in topology.ports ports p ≡ false) own → 1 ≤ length own → b.first ≡ length ports
    → 1 + length branches ≤ 65535 → 1 ≤ b.hop
    → with_route topology (record { ports = ports; branches = branches })
    (lead_to (legs_of ports branches) (leads_of ports branches) b ++ own) ≡ Some (with_branch ports own branches b)
again_behind topology ports own branches b are tree begins out own_some first few later = again
  where
    P : List Port
    P = topology.ports

    legs : List (List ℕ)
    legs = legs_of ports branches

    -- the ports in front of the branch
    front : List ℕ
    front = leg_at (leads_of ports branches) b.leg

    leg : List ℕ
    leg = leg_at legs b.leg

    hop : ℕ
    hop = b.hop - 1

    inside : b.leg ≤ length branches
    inside = omega (arith, begins.earlier)

    place : ℕ
    place = first_from 0 branches b.leg + hop

    at : IsPlace 0 ports branches b.leg hop
    at = is_place 0 ports branches b.leg hop are.places (omega arith) inside
        (omega (arith, begins.within, later))

    lead : List ℕ
    lead = front ++ take b.hop leg

    long : length lead ≡ length front + b.hop
    long = omega (arith, length-append front (take b.hop leg), length-take b.hop leg, begins.within)

    -- the last of them is the port at the place
    last_is : get_or lead (length front + hop) 0 ≡ get_or ports place 0
    last_is = get_or-append-add front (take b.hop leg) hop 0
        ∙ get_or-take b.hop leg hop 0 (omega (arith, later)) ∙ sym at.port

    last_in : (i : ℕ) → suc i ≡ length lead → is_in P ports (get_or lead i 0) ≡ true
    last_in i h =
        let i_is : length front + hop ≡ i = omega (arith, h, long, later) in
        subst (λ (p : ℕ). is_in P ports p ≡ true)
        (sym last_is ∙ ap (λ (j : ℕ). get_or lead j 0) i_is) (own_node P ports place at.within)

    count_is : known_ports P ports (lead ++ own) ≡ length lead
    count_is = known_are P ports lead own out (omega (arith, long, later)) last_in

    node_is : node_after P (lead ++ own) (length lead) ≡ (port_at P (get_or ports place 0)).to
    node_is =
        let i_is : length lead - 1 ≡ length front + hop = omega (arith, long, later) in
        ap (λ (p : ℕ). (port_at P p).to) (ap (λ (i : ℕ). get_or (lead ++ own) i 0) i_is
        ∙ get_or_append_left lead own 0 (length front + hop) (omega (arith, long, later)) ∙ last_is)

    there : place_to P (node_after P (lead ++ own) (length lead)) ports ≡ Some place
    there = ap (λ (node : ℕ). place_to P node ports) node_is
        ∙ place_own P ports 0 place (to_apart P ports tree.apart) at.within ∙ ap Some plain
      where
        plain : 0 + place ≡ place
        plain = omega arith

    old : DeclaredLegs
    old = record { ports = ports; branches = branches }

    leg_found : leg_with branches place ≡ b.leg
    leg_found = leg_is 0 branches (length ports) place b.leg are.places inside (omega arith) at.below

    branch_found : branch_behind old place ≡ b
    branch_found = ap (λ (n : ℕ). branch_on old place n) leg_found
        ∙ branch_is b (length ports) b.leg (suc (place - first_from 0 branches b.leg)) (sym first) refl
        (omega (arith, later))

    route_front : take (length lead) (leg_at (routes_of ports branches) b.leg) ≡ lead
    route_front = ap (λ (r : List ℕ). take (length lead) r) (route-at ports branches b.leg [] inside)
        ∙ ap (λ (n : ℕ). take n (front ++ leg)) long ∙ take-append-add front leg b.hop

    alike : bytes_eq (take (length lead) (lead ++ own)) (take (length lead) (leg_at (routes_of ports branches) b.leg))
        ≡ true
    alike = ap (λ (l : List ℕ). bytes_eq l (take (length lead) (leg_at (routes_of ports branches) b.leg)))
        (take-append_seam lead own) ∙ ap (bytes_eq lead) route_front ∙ bytes_eq-same lead

    passes : goes_off old (lead ++ own) (length lead) b ≡ true
    passes =
        let same_front : Bool = bytes_eq (take (length lead) (lead ++ own))
        (take (length lead) (leg_at (routes_of ports branches) b.leg)) in
        let room : Bool = ltb (length branches) 65535 in
        let four : (same_front && room) ≡ true =
        and_from same_front room alike (lt-ltb (length branches) 65535 (omega (arith, few))) in
        let three : (ltb b.hop (length leg) && (same_front && room)) ≡ true =
        and_from (ltb b.hop (length leg)) (same_front && room) (lt-ltb b.hop (length leg) begins.within) four in
        let two : (ltb (length lead) (length (lead ++ own)) && (ltb b.hop (length leg) && (same_front && room)))
        ≡ true =
        and_from (ltb (length lead) (length (lead ++ own))) (ltb b.hop (length leg) && (same_front && room))
        (lt-ltb (length lead) (length (lead ++ own)) (omega (arith, own_some, length-append lead own))) three in
        and_from (ltb 0 (length lead))
        (ltb (length lead) (length (lead ++ own)) && (ltb b.hop (length leg) && (same_front && room)))
        (lt-ltb 0 (length lead) (omega (arith, long, later))) two

    next : DeclaredLegs
    next = record { ports = ports ++ own; branches = branches ++ b ∷ [] }

    own_is : grown old (lead ++ own) (length lead) b ≡ next
    own_is = ap (λ (l : List ℕ). with_ports (ports ++ l)) (drop-append_seam lead own)
      where
        with_ports : List ℕ → DeclaredLegs
        with_ports l = record { ports = l; branches = branches ++ b ∷ [] }

    again : with_route topology old (lead ++ own) ≡ Some next
    again = ap (λ (n : ℕ). with_known topology old (lead ++ own) n) count_is
        ∙ known_more topology old (lead ++ own) (length lead) (omega (arith, long, later))
        ∙ ap (option_and_then (λ p. grown_where old (lead ++ own) (length lead) (branch_behind old p))) there
        ∙ ap (λ (c : Branch). grown_where old (lead ++ own) (length lead) c) branch_found
        ∙ ap (λ (t : Bool). cond t (Some (grown old (lead ++ own) (length lead) b)) None) passes
        ∙ ap Some own_is

-- and so is one that begins at the talker
again_first : (topology : DeclaredTopology) (ports own : List ℕ) (branches : List Branch) (b : Branch)
    → (port_at topology.ports (get_or own 0 0)).from ≡ (port_at topology.ports (get_or ports 0 0)).from
    → All (λ p. is_in topology.ports ports p ≡ false) own → b.first ≡ length ports → 1 + length branches ≤ 65535
    → b.leg ≡ 0 → b.hop ≡ 0
    → with_route topology (record { ports = ports; branches = branches })
    (lead_to (legs_of ports branches) (leads_of ports branches) b ++ own) ≡ Some (with_branch ports own branches b)
again_first topology ports own branches b start out first few at_trunk at_first =
    ap (with_route topology old) route_is
    ∙ ap (λ (n : ℕ). with_known topology old own n) (none_known P ports own out)
    ∙ ap (λ (t : Bool). cond t (Some (grown old own 0 (branch_first old))) None) passes
    ∙ ap (λ (c : Branch). Some (with_branch ports own branches c)) branch_found
  where
    P : List Port
    P = topology.ports

    old : DeclaredLegs
    old = record { ports = ports; branches = branches }

    legs : List (List ℕ)
    legs = legs_of ports branches

    leads : List (List ℕ)
    leads = leads_of ports branches

    -- nothing is in front of it
    route_is : lead_to (legs_of ports branches) (leads_of ports branches) b ++ own ≡ own
    route_is = ap (λ (n : ℕ). (leg_at leads n ++ take b.hop (leg_at legs n)) ++ own) at_trunk
        ∙ ap (λ (h : ℕ). (leg_at leads 0 ++ take h (leg_at legs 0)) ++ own) at_first
        ∙ ap (λ (lead : List ℕ). (lead ++ []) ++ own) (lead_of_trunk ports branches)

    passes : goes_off_first topology.ports (record { ports = ports; branches = branches }) own ≡ true
    passes = and_from (eqb (beginning_of P own) (beginning_of P ports)) (ltb (length branches) 65535)
        (eq-eqb (beginning_of P own) (beginning_of P ports) start) (lt-ltb (length branches) 65535 (omega (arith, few)))

    branch_found : branch_first (record { ports = ports; branches = branches }) ≡ b
    branch_found = branch_is b (length ports) 0 0 (sym first) (sym at_trunk) (sym at_first)

-- legs without their last branch, and that its route finds it again
pub record Shrinks (topology : DeclaredTopology) (ports own : List ℕ) (branches : List Branch) (b : Branch) : Type 0
  where
    pub are : AreBranches ports branches
    pub tree : IsTree topology ports branches
    pub grow : Grows ports own branches b
    pub again : with_route topology (record { ports = ports; branches = branches })
        (lead_to (legs_of ports branches) (leads_of ports branches) b ++ own)
        ≡ Some (record { ports = ports ++ own; branches = branches ++ b ∷ [] })

pub shrink : (topology : DeclaredTopology) (ports own : List ℕ) (branches : List Branch) (b : Branch)
    → AreBranches (ports ++ own) (branches ++ b ∷ []) → IsTree topology (ports ++ own) (branches ++ b ∷ [])
    → b.first ≡ length ports → Shrinks topology ports own branches b
shrink topology ports own branches b whole tree first = record {
  are = are;
  tree = less;
  grow = g;
  again = by (behind_or_talker legs (1 + length branches) b begin.last);
}
  where
    P : List Port
    P = topology.ports

    all : List (List ℕ)
    all = legs_of (ports ++ own) (branches ++ b ∷ [])

    legs : List (List ℕ)
    legs = legs_of ports branches

    to : AscendsTo 0 branches b (length (ports ++ own))
    to = ascends_to 0 branches b (length (ports ++ own)) whole.places

    places : Ascend 0 branches (length ports)
    places = subst (Ascend 0 branches) first to.front

    own_some : 1 ≤ length own
    own_some = omega (arith, to.below, first, length-append ports own)

    legs_are : all ≡ legs ++ own ∷ []
    legs_are = legs_grow 0 ports own branches b places (omega arith) first

    many : length legs ≡ suc (length branches)
    many = legs-length 0 ports branches

    begin : BeginFront legs 1 branches b
    begin = begin_front legs own 1 branches b
        (subst (λ (l : List (List ℕ)). BeginEarlier l 1 (branches ++ b ∷ [])) legs_are whole.begin)
        (omega (arith, many))

    few : 1 + length branches ≤ 65535
    few = omega (arith, whole.few, length-append branches (b ∷ []))

    are : AreBranches ports branches
    are = record { places = places; begin = begin.front; few = omega (arith, few) }

    g : Grows ports own branches b
    g = grows ports own branches b are (omega (arith, to.before, first)) own_some first begin.last few

    same : (n : ℕ) → n ≤ length branches → leg_at all n ≡ leg_at legs n
    same n h = ap (λ (ls : List (List ℕ)). leg_at ls n) legs_are
        ∙ get_or_append_left legs (own ∷ []) [] n (omega (arith, h, many))

    starts : (c : Branch) → c.leg ≤ length branches → node_of_branch P all c ≡ node_of_branch P legs c
    starts c h = ap (λ (path : List ℕ). (port_at P (get_or path c.hop 0)).from) (same c.leg h)

    each : (n : ℕ) → n < length branches
        → IsBranch topology legs (get_or branches n no_branch) (leg_at legs (1 + n))
    each n below =
        let c : Branch = get_or branches n no_branch in
        let one : IsBranch topology all c (leg_at all (1 + n)) =
        subst (λ (d : Branch). IsBranch topology all d (leg_at all (1 + n)))
        (get_or_append_left branches (b ∷ []) no_branch n below)
        (tree.each n (omega (arith, below, length-append branches (b ∷ [])))) in
        let begun : BeginsEarlier legs (1 + n) c = begins_at legs 1 branches n begin.front below in
        record {
          listener = one.listener;
          walk = subst (λ (path : List ℕ). IsWalk P (node_of_branch P legs c) one.listener path)
              (same (1 + n) (omega (arith, below)))
              (subst (λ (start : ℕ). IsWalk P start one.listener (leg_at all (1 + n)))
              (starts c (omega (arith, begun.earlier, below))) one.walk);
        }

    less : IsTree topology ports branches
    less = record {
      trunk = subst (IsValidPath topology) (same 0 (omega arith)) tree.trunk;
      each = each;
      apart = front_apart P ports own tree.apart;
    }

    out : All (λ p. is_in topology.ports ports p ≡ false) own
    out = behind_out P ports own (to_apart P (ports ++ own) tree.apart)

    -- the first port of the branch leaves the node where it begins
    own_is : leg_at (legs_of (ports ++ own) (branches ++ b ∷ [])) (1 + length branches) ≡ own
    own_is = let at : 1 + length branches ≡ length legs = omega (arith, many) in
        ap (λ (ls : List (List ℕ)). leg_at ls (1 + length branches)) legs_are
        ∙ ap (λ (n : ℕ). leg_at (legs ++ own ∷ []) n) at ∙ get_or-append_seam legs own [] []

    last : IsBranch topology (legs_of (ports ++ own) (branches ++ b ∷ [])) b
        (leg_at (legs_of (ports ++ own) (branches ++ b ∷ [])) (1 + length branches))
    last = subst (λ (c : Branch). IsBranch topology all c (leg_at all (1 + length branches)))
        (get_or-append_seam branches b [] no_branch)
        (tree.each (length branches) (omega (arith, length-append branches (b ∷ []))))

    start : b.leg ≡ 0 → b.hop ≡ 0
        → (port_at topology.ports (get_or own 0 0)).from ≡ (port_at topology.ports (get_or ports 0 0)).from
    start at_trunk at_first =
        walk_first P (node_of_branch P all b) last.listener own
        (subst (IsWalk P (node_of_branch P all b) last.listener) own_is last.walk) (omega (arith, own_some))
        ∙ starts b (omega (arith, at_trunk))
        ∙ ap (λ (n : ℕ). (port_at P (get_or (leg_at legs n) b.hop 0)).from) at_trunk
        ∙ ap (λ (h : ℕ). (port_at P (get_or (leg_at legs 0) h 0)).from) at_first
        ∙ walk_first P less.trunk.talker less.trunk.listener (leg_at legs 0) less.trunk.walk less.trunk.some
        ∙ sym (from_talker topology ports branches less less.trunk.some)

    by : (1 ≤ b.hop) ⊎ ((b.leg ≡ 0) × (b.hop ≡ 0))
        → with_route topology (record { ports = ports; branches = branches })
        (lead_to (legs_of ports branches) (leads_of ports branches) b ++ own) ≡ Some (with_branch ports own branches b)
    by (inl later) = again_behind topology ports own branches b are less begin.last out own_some first few later
    by (inr at) = again_first topology ports own branches b (start at.0 at.1) out first few at.0 at.1
