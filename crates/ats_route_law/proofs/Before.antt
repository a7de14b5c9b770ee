-- All routes of a sender come to a port in the same way.
use Rattle.std.proofs.Common.{◌≡◌, ◌≢◌, ℕ, zero, suc, ◌+◌, ◌-◌, ◌<◌, ◌≤◌, ◌⊎◌, inl, inr, List, [], ◌∷◌, ◌++◌, length}
use Rattle.std.proofs.Common.{Bool, true, false, eqb, cond, Option, Some, None, get_or, take, refl, sym, ap, subst, ◌∙◌}
use Rattle.std.proofs.Common.{arith, length-append, length-take}
use Rattle.std.specs.List.{All, AllPairs, concat}
use Rattle.std.specs.Option.{option_or}
use Rattle.std.proofs.lemmas.Bool.{cases_lt, eqb-true}
use Rattle.std.proofs.lemmas.Option.{none-some}
use Rattle.std.proofs.lemmas.List.{get_or_append_left, get_or-append-add, get_or-take}
use Rattle.ats_streams.specs.Branches.{AreBranches, BeginsEarlier, leads_of, leg_at, legs_of, no_branch, routes_of}
use Rattle.ats_streams.specs.declared.branch.Branch.{Branch}
use Rattle.ats_streams.proofs.BranchLemmas.{begins_at, behind_or_talker, lead_of, lead_of_trunk, lead-length}
use Rattle.ats_streams.proofs.BranchLemmas.{legs-length, route-at, routes-length}
use Rattle.ats_topology.specs.Topology.{DeclaredTopology}
use Rattle.ats_network.specs.Class.{before_along, before_on, port_before}
use Rattle.ats_network.specs.Sender.{Sender}
use Rattle.ats_network.specs.Senders.{IsSender}
use Rattle.ats_network.proofs.ClassLemmas.{before_along-at}
use Rattle.ats_network.proofs.Parts.{part_pairs}
use Rattle.ats_network.proofs.ValidRoutes.{route_part}
use Rattle.ats_trace.proofs.Legs.{concat-legs_of}
use Rattle.ats_route_law.specs.Laws.{PortBeforeIsOne, before_hop, in_front_of, ports_of_leg}
use Rattle.ats_route_law.proofs.Places.{IsAt, at_one}

-- the ports in front of a leg of a sender, and the route that ends with it
abbrev pub lead_on : Sender → ℕ → List ℕ
lead_on s n = leg_at (leads_of s.ports s.branches) n

abbrev pub route_on : Sender → ℕ → List ℕ
route_on s n = lead_on s n ++ ports_of_leg s n

-- the ports in front of a branch
lead_next : (s : Sender) (n : ℕ) → AreBranches s.ports s.branches → n < length s.branches → lead_on s (suc n)
    ≡ lead_on s (get_or s.branches n no_branch).leg
    ++ take (get_or s.branches n no_branch).hop (ports_of_leg s (get_or s.branches n no_branch).leg)
lead_next s n are within =
    let next : suc n ≡ 1 + n = omega arith in
    ap (λ (k : ℕ). lead_on s k) next ∙ lead_of s.ports s.branches n are within

lead_long : (s : Sender) (n : ℕ) → AreBranches s.ports s.branches → n < length s.branches
    → length (lead_on s (suc n))
    ≡ (get_or s.branches n no_branch).hop + length (lead_on s (get_or s.branches n no_branch).leg)
lead_long s n are within =
    let next : suc n ≡ 1 + n = omega arith in
    ap (λ (k : ℕ). length (lead_on s k)) next ∙ lead-length s.ports s.branches n are within

-- a port of a route behind its first: the hop of the leg at which it is, and that the one in front of it there is the
-- one before on the route
pub record Comes (s : Sender) (route : List ℕ) (i : ℕ) : Type 0 where
  pub leg : ℕ
  pub hop : ℕ
  pub at : IsAt (legs_of s.ports s.branches) (get_or route (suc i) 0) leg hop
  pub front : in_front_of s leg hop ≡ Some (get_or route i 0)

-- the first elements of joined lists are those in front of a part of the second
front_same : (xs ys : List ℕ) (n j : ℕ) → j < length (xs ++ take n ys)
    → get_or (xs ++ take n ys) j 0 ≡ get_or (xs ++ ys) j 0
front_same [] ys n j within = get_or-take n ys j 0 (omega (arith, within, length-take n ys))
front_same (x ∷ xs) ys n zero within = refl
front_same (x ∷ xs) ys n (suc j) within = front_same xs ys n j (omega arith)

-- so it is within the leg
in_leg : (s : Sender) (n h : ℕ) → n ≤ length s.branches → suc h < length (ports_of_leg s n)
    → (i : ℕ) → i ≡ length (lead_on s n) + h → Comes s (route_on s n) i
in_leg s n h within short i is =
    let legs : List (List ℕ) = legs_of s.ports s.branches in
    let lead : List ℕ = lead_on s n in
    let leg : List ℕ = ports_of_leg s n in
    let here : get_or (lead ++ leg) i 0 ≡ get_or leg h 0 =
    ap (λ (k : ℕ). get_or (lead ++ leg) k 0) is ∙ get_or-append-add lead leg h 0 in
    let next : suc i ≡ length lead + suc h = omega (arith, is) in
    let there : get_or (lead ++ leg) (suc i) 0 ≡ get_or leg (suc h) 0 =
    ap (λ (k : ℕ). get_or (lead ++ leg) k 0) next ∙ get_or-append-add lead leg (suc h) 0 in
    record {
      leg = n;
      hop = suc h;
      at = record { in_legs = omega (arith, legs-length 0 s.ports s.branches, within); in_leg = short; is = sym there };
      front = ap (λ (p : ℕ). Some p) (sym here);
    }

-- a branch with ports in front of it does not begin at the talker
later_where_led : (s : Sender) (n : ℕ) → AreBranches s.ports s.branches → n < length s.branches
    → 1 ≤ length (lead_on s (suc n)) → 1 ≤ (get_or s.branches n no_branch).hop
later_where_led s n are within some =
    by (behind_or_talker legs (1 + n) b (begins_at legs 1 s.branches n are.begin within))
  where
    legs : List (List ℕ)
    legs = legs_of s.ports s.branches

    b : Branch
    b = get_or s.branches n no_branch

    by : (1 ≤ b.hop) ⊎ ((b.leg ≡ 0) × (b.hop ≡ 0)) → 1 ≤ (get_or s.branches n no_branch).hop
    by (inl later) = later
    by (inr at) = absurd (omega (
      arith,
      some,
      lead_long s n are within,
      at.1,
      ap (λ (k : ℕ). length (lead_on s k)) at.0,
      ap (λ (l : List ℕ). length l) (lead_of_trunk s.ports s.branches),
    ))

-- and where a branch begins
at_begin : (s : Sender) (n : ℕ) → AreBranches s.ports s.branches → n < length s.branches
    → 0 < length (ports_of_leg s (suc n)) → (i : ℕ) → suc i ≡ length (lead_on s (suc n))
    → Comes s (route_on s (suc n)) i
at_begin s n are within some i is =
    let legs : List (List ℕ) = legs_of s.ports s.branches in
    let b : Branch = get_or s.branches n no_branch in
    let later : 1 ≤ b.hop = later_where_led s n are within (omega (arith, is)) in
    let lead : List ℕ = lead_on s (suc n) in
    let leg : List ℕ = ports_of_leg s (suc n) in
    let before : List ℕ = lead_on s b.leg in
    let own : List ℕ = ports_of_leg s b.leg in
    let lead_is : lead ≡ before ++ take b.hop own = lead_next s n are within in
    let long : length lead ≡ b.hop + length before = lead_long s n are within in
    let last : i ≡ length before + (b.hop - 1) = omega (arith, is, long, later) in
    let hop_is : b.hop ≡ suc (b.hop - 1) = omega (arith, later) in
    let here : get_or (lead ++ leg) i 0 ≡ get_or own (b.hop - 1) 0 =
    get_or_append_left lead leg 0 i (omega (arith, is))
    ∙ ap (λ (l : List ℕ). get_or l i 0) lead_is
    ∙ ap (λ (k : ℕ). get_or (before ++ take b.hop own) k 0) last
    ∙ get_or-append-add before (take b.hop own) (b.hop - 1) 0
    ∙ get_or-take b.hop own (b.hop - 1) 0 (omega (arith, later)) in
    let next : suc i ≡ length lead + 0 = omega (arith, is) in
    let there : get_or (lead ++ leg) (suc i) 0 ≡ get_or leg 0 0 =
    ap (λ (k : ℕ). get_or (lead ++ leg) k 0) next ∙ get_or-append-add lead leg 0 0 in
    record {
      leg = suc n;
      hop = 0;
      at = record { in_legs = omega (arith, legs-length 0 s.ports s.branches, within); in_leg = some; is = sym there };
      front = ap (before_hop own) hop_is ∙ ap (λ (p : ℕ). Some p) (sym here);
    }

-- and in front of it, where it is so on the route to the leg at which the branch begins
in_lead : (s : Sender) (n : ℕ) → AreBranches s.ports s.branches → n < length s.branches → (i : ℕ)
    → suc i < length (lead_on s (suc n)) → Comes s (route_on s (get_or s.branches n no_branch).leg) i
    → Comes s (route_on s (suc n)) i
in_lead s n are within i short before =
    let b : Branch = get_or s.branches n no_branch in
    let lead : List ℕ = lead_on s (suc n) in
    let leg : List ℕ = ports_of_leg s (suc n) in
    let earlier : List ℕ = lead_on s b.leg in
    let own : List ℕ = ports_of_leg s b.leg in
    let lead_is : lead ≡ earlier ++ take b.hop own = lead_next s n are within in
    let long : length lead ≡ length (earlier ++ take b.hop own) = ap (λ (l : List ℕ). length l) lead_is in
    let same : (j : ℕ) → j < length lead → get_or (lead ++ leg) j 0 ≡ get_or (earlier ++ own) j 0 =
    λ j there. get_or_append_left lead leg 0 j there ∙ ap (λ (l : List ℕ). get_or l j 0) lead_is
    ∙ front_same earlier own b.hop j (omega (arith, there, long)) in
    record {
      leg = before.leg;
      hop = before.hop;
      at = record {
        in_legs = before.at.in_legs;
        in_leg = before.at.in_leg;
        is = before.at.is ∙ sym (same (suc i) short);
      };
      front = before.front ∙ ap (λ (p : ℕ). Some p) (sym (same i (omega (arith, short))));
    }

-- so it is of each port of a route but the first
comes : (s : Sender) → AreBranches s.ports s.branches → (fuel n : ℕ) → n ≤ fuel → n ≤ length s.branches → (i : ℕ)
    → suc i < length (route_on s n) → Comes s (route_on s n) i
comes s are fuel zero enough within i short =
    let none : length (lead_on s 0) ≡ 0 = ap (λ (l : List ℕ). length l) (lead_of_trunk s.ports s.branches) in
    in_leg s 0 i within (omega (arith, short, none, length-append (lead_on s 0) (ports_of_leg s 0))) i
    (omega (arith, none))
comes s are zero (suc n) enough within i short = absurd (omega arith)
comes s are (suc fuel) (suc n) enough within i short =
    let b : Branch = get_or s.branches n no_branch in
    let begins : BeginsEarlier (legs_of s.ports s.branches) (1 + n) b =
    begins_at (legs_of s.ports s.branches) 1 s.branches n are.begin (omega arith) in
    let lead : List ℕ = lead_on s (suc n) in
    let leg : List ℕ = ports_of_leg s (suc n) in
    let all : length (lead ++ leg) ≡ length lead + length leg = length-append lead leg in
    elim (cases_lt (suc i) (length lead)) as (λ _. Comes s (route_on s (suc n)) i) [
      | inl inside ↦ (
          let earlier : List ℕ = lead_on s b.leg in
          let own : List ℕ = ports_of_leg s b.leg in
          in_lead s n are (omega arith) i inside
          (comes s are fuel b.leg (omega (arith, begins.earlier, enough)) (omega (arith, begins.earlier, within)) i
          (omega (
            arith,
            inside,
            lead_long s n are (omega arith),
            begins.within,
            length-append earlier own,
          ))))
      | inr past ↦ elim (cases_lt i (length lead)) as (λ _. Comes s (route_on s (suc n)) i) [
        | inl last ↦ at_begin s n are (omega arith) (omega (arith, short, all, past)) i (omega (arith, past, last))
        | inr behind ↦ in_leg s (suc n) (i - length lead) within (omega (arith, short, all, behind)) i
            (omega (arith, behind))
      ]
    ]

-- where a path has a port before another one
record Found (path : List ℕ) (q x : ℕ) : Type 0 where
  pub place : ℕ
  pub within : suc place < length path
  pub there : get_or path (suc place) 0 ≡ q
  pub before : get_or path place 0 ≡ x

pub some_same : (x y : ℕ) → Some x ≡ Some y → x ≡ y
some_same x y same = ap (λ (o : Option ℕ). elim o as (λ _. ℕ) [ None ↦ 0 | Some z ↦ z ]) same

found : (path : List ℕ) (q x : ℕ) → before_along q path ≡ Some x → Found path q x
found [] q x is = absurd (none-some x is)
found (p ∷ []) q x is = absurd (none-some x is)
found (p ∷ r ∷ path) q x is = by (eqb r q) refl (λ rest. found (r ∷ path) q x rest)
  where
    by : (t : Bool) → eqb r q ≡ t → (before_along q (r ∷ path) ≡ Some x → Found (r ∷ path) q x)
        → Found (p ∷ r ∷ path) q x
    by true e more =
        record {
          place = 0;
          within = omega arith;
          there = eqb-true r q e;
          before = some_same p x (sym (ap (λ (t : Bool). cond t (Some p) (before_along q (r ∷ path))) e) ∙ is);
        }
    by false e more =
        let further : Found (r ∷ path) q x =
        more (sym (ap (λ (t : Bool). cond t (Some p) (before_along q (r ∷ path))) e) ∙ is) in
        record {
          place = suc further.place;
          within = omega (arith, further.within);
          there = further.there;
          before = further.before;
        }

-- where the routes that have a port before another one agree on it, the first that has one tells it
before_on-is : (q : ℕ) (want : Option ℕ) (routes : List (List ℕ))
    → All (λ (route : List ℕ). (y : ℕ) → before_along q route ≡ Some y → want ≡ Some y) routes
    → (before_on q routes ≡ want) ⊎ (before_on q routes ≡ None)
before_on-is q want [] agree = inr refl
before_on-is q want (route ∷ routes) agree =
    by (before_along q route) refl (before_on-is q want routes (λ n d within. agree (suc n) d (omega arith)))
  where
    by : (o : Option ℕ) → before_along q route ≡ o → (before_on q routes ≡ want) ⊎ (before_on q routes ≡ None)
        → (option_or o (before_on q routes) ≡ want) ⊎ (option_or o (before_on q routes) ≡ None)
    by None e further = further
    by (Some y) e further = inl (sym (agree 0 [] (omega arith) y e))

before_on-some : (q x : ℕ) (routes : List (List ℕ)) (n : ℕ) → n < length routes
    → before_along q (get_or routes n []) ≡ Some x → before_on q routes ≢ None
before_on-some q x [] n within is none = absurd (omega arith)
before_on-some q x (route ∷ routes) zero within is none = first (before_along q route) refl none
  where
    first : (o : Option ℕ) → before_along q route ≡ o → option_or o (before_on q routes) ≢ None
    first (Some y) e none = absurd (none-some y (sym none))
    first None e none = absurd (none-some x (sym e ∙ is))
before_on-some q x (route ∷ routes) (suc n) within is none =
    later (before_along q route) (before_on-some q x routes n (omega arith) is) none
  where
    later : (o : Option ℕ) → before_on q routes ≢ None → option_or o (before_on q routes) ≢ None
    later (Some y) some none = absurd (none-some y (sym none))
    later None some none = some none

-- where something is in front of the hop of a leg, the hop is not the first of its route
not_first : (s : Sender) (leg hop x : ℕ) → AreBranches s.ports s.branches → leg ≤ length s.branches
    → in_front_of s leg hop ≡ Some x → 1 ≤ length (lead_on s leg) + hop
not_first s leg (suc hop) x are within has = omega arith
not_first s zero zero x are within has = absurd (none-some x has)
not_first s (suc n) zero x are within has =
    by (get_or s.branches n no_branch).hop (lead_long s n are (omega arith)) has
  where
    own : List ℕ
    own = ports_of_leg s (get_or s.branches n no_branch).leg

    by : (hop : ℕ) → length (lead_on s (suc n)) ≡ hop + length (lead_on s (get_or s.branches n no_branch).leg)
        → before_hop own hop ≡ Some x → 1 ≤ length (lead_on s (suc n)) + 0
    by zero long has = absurd (none-some x has)
    by (suc hop) long has = omega (arith, long)

-- the port before another one is before it on some route
before_on-found : (q x : ℕ) (routes : List (List ℕ)) → before_on q routes ≡ Some x
    → (n : ℕ) × (n < length routes) × (before_along q (get_or routes n []) ≡ Some x)
before_on-found q x [] is = absurd (none-some x is)
before_on-found q x (route ∷ routes) is =
    by (before_along q route) refl is (λ rest. before_on-found q x routes rest)
  where
    by : (o : Option ℕ) → before_along q route ≡ o → option_or o (before_on q routes) ≡ Some x
        → (before_on q routes ≡ Some x → (n : ℕ) × (n < length routes)
        × (before_along q (get_or routes n []) ≡ Some x))
        → (n : ℕ) × (n < length (route ∷ routes)) × (before_along q (get_or (route ∷ routes) n []) ≡ Some x)
    by None e has more =
        let further : (n : ℕ) × (n < length routes) × (before_along q (get_or routes n []) ≡ Some x) = more has in
        (suc further.0, omega (arith, further.1), further.2)
    by (Some y) e has more = (0, omega arith, e ∙ has)

-- a port that has one before it is at a hop of a leg
pub record IsSomewhere (s : Sender) (q : ℕ) : Type 0 where
  pub leg : ℕ
  pub hop : ℕ
  pub at : IsAt (legs_of s.ports s.branches) q leg hop

pub somewhere : (topology : DeclaredTopology) (s : Sender) (q x : ℕ) → IsSender topology s
    → port_before s q ≡ Some x → IsSomewhere s q
somewhere topology s q x is has =
    let on : (n : ℕ) × (n < length (routes_of s.ports s.branches))
    × (before_along q (get_or (routes_of s.ports s.branches) n []) ≡ Some x) =
    before_on-found q x (routes_of s.ports s.branches) has in
    let within : on.0 ≤ length s.branches = omega (arith, on.1, routes-length s.ports s.branches) in
    let at : Found (route_on s on.0) q x = found (route_on s on.0) q x
    (ap (λ (l : List ℕ). before_along q l) (sym (route-at s.ports s.branches on.0 [] within)) ∙ on.2) in
    let there : Comes s (route_on s on.0) at.place =
    comes s is.branches on.0 on.0 (omega arith) within at.place at.within in
    record {
      leg = there.leg;
      hop = there.hop;
      at = subst (λ (p : ℕ). IsAt (legs_of s.ports s.branches) p there.leg there.hop) at.there there.at;
    }

pub port_before_is_one : PortBeforeIsOne
port_before_is_one topology s leg hop is in_legs short =
    by (in_front_of s leg hop) refl (before_on-is q (in_front_of s leg hop) routes all_agree)
  where
    q : ℕ
    q = get_or (ports_of_leg s leg) hop 0

    routes : List (List ℕ)
    routes = routes_of s.ports s.branches

    many : length routes ≡ suc (length s.branches)
    many = routes-length s.ports s.branches

    apart : AllPairs (λ p r. p ≢ r) (concat (legs_of s.ports s.branches))
    apart = subst (AllPairs (λ p r. p ≢ r)) (sym (concat-legs_of s.ports s.branches is.branches)) is.apart

    here : IsAt (legs_of s.ports s.branches) q leg hop
    here = record {
      in_legs = omega (arith, legs-length 0 s.ports s.branches, in_legs);
      in_leg = short;
      is = refl;
    }

    -- a route that has a port before this one has the one in front of it
    agrees : (n : ℕ) → n ≤ length s.branches → (y : ℕ) → before_along q (route_on s n) ≡ Some y
        → in_front_of s leg hop ≡ Some y
    agrees n within y has =
        let at : Found (route_on s n) q y = found (route_on s n) q y has in
        let as_found : Comes s (route_on s n) at.place =
        comes s is.branches n n (omega arith) within at.place at.within in
        let there : IsAt (legs_of s.ports s.branches) q as_found.leg as_found.hop =
        subst (λ (p : ℕ). IsAt (legs_of s.ports s.branches) p as_found.leg as_found.hop) at.there as_found.at in
        let one : (leg ≡ as_found.leg) × (hop ≡ as_found.hop) =
        at_one (legs_of s.ports s.branches) q leg hop as_found.leg as_found.hop apart here there in
        ap (λ (l : ℕ). in_front_of s l hop) one.0 ∙ ap (λ (h : ℕ). in_front_of s as_found.leg h) one.1
        ∙ as_found.front ∙ ap (λ (p : ℕ). Some p) at.before

    all_agree : All (λ (route : List ℕ). (y : ℕ) → before_along q route ≡ Some y → in_front_of s leg hop ≡ Some y)
        routes
    all_agree n d within y has =
        agrees n (omega (arith, within, many)) y
        (ap (λ (l : List ℕ). before_along q l) (sym (route-at s.ports s.branches n d (omega (arith, within, many))))
        ∙ has)

    -- the route that ends with its leg has one, where one is in front of it
    has_one : (i : ℕ) → suc i ≡ length (lead_on s leg) + hop → before_on q routes ≢ None
    has_one i place =
        let lead : List ℕ = lead_on s leg in
        let own : List ℕ = ports_of_leg s leg in
        let whole : get_or routes leg [] ≡ lead ++ own = route-at s.ports s.branches leg [] in_legs in
        let different : AllPairs (λ p r. p ≢ r) (lead ++ own) =
        part_pairs (λ p r. p ≢ r) (lead ++ own) s.ports (route_part s.ports s.branches is.branches leg in_legs)
        is.apart in
        let there : get_or (lead ++ own) (suc i) 0 ≡ q =
        ap (λ (k : ℕ). get_or (lead ++ own) k 0) place ∙ get_or-append-add lead own hop 0 in
        before_on-some q (get_or (lead ++ own) i 0) routes leg (omega (arith, many, in_legs))
        (ap (λ (l : List ℕ). before_along q l) whole
        ∙ ap (λ (p : ℕ). before_along p (lead ++ own)) (sym there)
        ∙ before_along-at (lead ++ own) i different (omega (arith, place, short, length-append lead own)))

    by : (want : Option ℕ) → in_front_of s leg hop ≡ want
        → (before_on q routes ≡ in_front_of s leg hop) ⊎ (before_on q routes ≡ None)
        → before_on q routes ≡ in_front_of s leg hop
    by want e (inl same) = same
    by None e (inr none) = none ∙ sym e
    by (Some x) e (inr none) =
        let some : 1 ≤ length (lead_on s leg) + hop = not_first s leg hop x is.branches in_legs e in
        absurd (has_one (length (lead_on s leg) + hop - 1) (omega (arith, some)) none)

-- so on each route the port before one is that in front of it there
pub before_on_route : (topology : DeclaredTopology) (s : Sender) (n i : ℕ) → IsSender topology s
    → n ≤ length s.branches → suc i < length (leg_at (routes_of s.ports s.branches) n)
    → port_before s (get_or (leg_at (routes_of s.ports s.branches) n) (suc i) 0)
    ≡ Some (get_or (leg_at (routes_of s.ports s.branches) n) i 0)
before_on_route topology s n i is within short =
    subst (λ (route : List ℕ). port_before s (get_or route (suc i) 0) ≡ Some (get_or route i 0)) (sym whole)
    (ap (port_before s) (sym at.at.is)
    ∙ port_before_is_one topology s at.leg at.hop is
    (omega (arith, at.at.in_legs, legs-length 0 s.ports s.branches)) at.at.in_leg
    ∙ at.front)
  where
    whole : leg_at (routes_of s.ports s.branches) n ≡ route_on s n
    whole = route-at s.ports s.branches n [] within

    at : Comes s (route_on s n) i
    at = comes s is.branches n n (omega arith) within i (omega (arith, short, ap (λ (l : List ℕ). length l) whole))
