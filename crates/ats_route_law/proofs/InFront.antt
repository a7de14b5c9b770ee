-- The ports by which frames come to a port.
use Rattle.std.proofs.Common.{◌≡◌, ℕ, zero, suc, ◌+◌, ◌<◌, ◌≤◌, ◌⊎◌, Bool, true, false, List, [], ◌∷◌, ◌++◌, get_or}
use Rattle.std.proofs.Common.{length, inl, inr, take, None, refl, sym, ap, ◌∙◌, arith, eqb, add-one}
use Rattle.std.specs.List.{All, before_first, list_any, position_or_len}
use Rattle.std.proofs.Math.Seq.{take-append-add}
use Rattle.std.proofs.lemmas.Bool.{cases_Bool, cases_lt, cond-false, cond-true, eq-eqb, eqb-true, true≢false}
use Rattle.std.proofs.lemmas.List.{get_or-take, get_or_append_left, get_or_default, take_more}
use Rattle.std.proofs.lemmas.List.Elements.{All-head, All-tail}
use Rattle.std.proofs.lemmas.List.Folds.{list_any_at, list_any_none}
use Rattle.std.proofs.lemmas.List.Sums.{fails_before_first, passes_at_first}
use Rattle.std.proofs.lemmas.Option.{none-some, same_Some}
use Rattle.ats_streams.specs.Branches.{BeginsEarlier, legs_of, no_branch, routes_of}
use Rattle.ats_streams.specs.declared.branch.Branch.{Branch}
use Rattle.ats_streams.proofs.BranchLemmas.{begins_at, behind_or_talker, lead-length, lead_of, lead_of_trunk}
use Rattle.ats_streams.proofs.BranchLemmas.{route-at, routes-length}
use Rattle.ats_topology.specs.Topology.{DeclaredTopology}
use Rattle.ats_network.specs.Class.{port_before}
use Rattle.ats_network.specs.Rates.{in_front_on, ports_to}
use Rattle.ats_network.specs.Sender.{Sender}
use Rattle.ats_network.specs.Senders.{IsSender}
use Rattle.ats_trace.specs.Ways.{route_to}
use Rattle.ats_route_law.specs.Laws.{before_hop, in_front_of, ports_of_leg}
use Rattle.ats_route_law.proofs.Before.{before_on_route, lead_on, port_before_is_one}
use Rattle.ats_route_law.proofs.Ends.{leg_some}

abbrev pub is_port : ℕ → ℕ → Bool
is_port port p = eqb p port

-- a route begins with the first port of a leg that begins at the talker, which has none before it
none_from : (topology : DeclaredTopology) (s : Sender) → IsSender topology s → (fuel n : ℕ) → n ≤ fuel
    → n ≤ length s.branches → port_before s (get_or (route_to s n) 0 0) ≡ None
none_from topology s is fuel zero enough within =
    ap (λ (l : List ℕ). port_before s (get_or l 0 0))
    (route-at s.ports s.branches 0 [] within
    ∙ ap (λ (l : List ℕ). l ++ ports_of_leg s 0) (lead_of_trunk s.ports s.branches))
    ∙ port_before_is_one topology s 0 0 is within (leg_some topology s 0 is within)
none_from topology s is zero (suc n) enough within = absurd (omega (arith, enough))
none_from topology s is (suc fuel) (suc n) enough within =
    ap (λ (k : ℕ). port_before s (get_or (route_to s k) 0 0)) next
    ∙ by (behind_or_talker (legs_of s.ports s.branches) (1 + n) b begins)
    (none_from topology s is fuel b.leg (omega (arith, begins.earlier, enough))
    (omega (arith, begins.earlier, within)))
  where
    below : n < length s.branches
    below = omega (arith, within)

    next : suc n ≡ 1 + n
    next = omega arith

    b : Branch
    b = get_or s.branches n no_branch

    begins : BeginsEarlier (legs_of s.ports s.branches) (1 + n) (get_or s.branches n no_branch)
    begins = begins_at (legs_of s.ports s.branches) 1 s.branches n is.branches.begin below

    lead : List ℕ
    lead = lead_on s (1 + n)

    before : List ℕ
    before = lead_on s (get_or s.branches n no_branch).leg

    own : List ℕ
    own = ports_of_leg s (get_or s.branches n no_branch).leg

    lead_is : lead_on s (1 + n) ≡ lead_on s (get_or s.branches n no_branch).leg
        ++ take (get_or s.branches n no_branch).hop (ports_of_leg s (get_or s.branches n no_branch).leg)
    lead_is = lead_of s.ports s.branches n is.branches below

    by : (1 ≤ b.hop) ⊎ ((b.leg ≡ 0) × (b.hop ≡ 0)) → port_before s (get_or (route_to s b.leg) 0 0) ≡ None
        → port_before s (get_or (route_to s (1 + n)) 0 0) ≡ None
    by (inl later) earlier =
        let some : 0 < length lead = omega (arith, lead-length s.ports s.branches n is.branches below, later) in
        ap (λ (l : List ℕ). port_before s (get_or l 0 0))
        (route-at s.ports s.branches (1 + n) [] (omega (arith, within)))
        ∙ ap (port_before s) (get_or_append_left lead (ports_of_leg s (1 + n)) 0 0 some
        ∙ ap (λ (l : List ℕ). get_or l 0 0) (lead_is ∙ sym (take-append-add before own b.hop))
        ∙ get_or-take (length before + b.hop) (before ++ own) 0 0 (omega (arith, later))
        ∙ ap (λ (l : List ℕ). get_or l 0 0)
        (sym (route-at s.ports s.branches b.leg [] (omega (arith, begins.earlier, within)))))
        ∙ earlier
    by (inr at) earlier =
        let none : lead_on s (1 + n) ≡ [] =
        lead_is ∙ ap (λ (k : ℕ). lead_on s k ++ take b.hop (ports_of_leg s k)) at.0
        ∙ ap (λ (h : ℕ). lead_on s 0 ++ take h (ports_of_leg s 0)) at.1
        ∙ ap (λ (l : List ℕ). l ++ []) (lead_of_trunk s.ports s.branches) in
        let inside : 1 + n ≤ length s.branches = omega (arith, within) in
        let front : in_front_of s (1 + n) 0 ≡ None =
        ap (λ (k : ℕ). in_front_of s k 0) (sym next) ∙ ap (before_hop own) at.1 in
        ap (λ (l : List ℕ). port_before s (get_or l 0 0)) (route-at s.ports s.branches (1 + n) [] inside
        ∙ ap (λ (l : List ℕ). l ++ ports_of_leg s (1 + n)) none)
        ∙ port_before_is_one topology s (1 + n) 0 is inside (leg_some topology s (1 + n) is inside) ∙ front

pub none_before : (topology : DeclaredTopology) (s : Sender) (n : ℕ) → IsSender topology s → n ≤ length s.branches
    → port_before s (get_or (route_to s n) 0 0) ≡ None
none_before topology s n is within = none_from topology s is n n (omega arith) within

-- routes that have a port come to it in one way
same_way : (topology : DeclaredTopology) (s : Sender) (n m h g : ℕ) → IsSender topology s → n ≤ length s.branches
    → m ≤ length s.branches → h < length (route_to s n) → g < length (route_to s m)
    → get_or (route_to s n) h 0 ≡ get_or (route_to s m) g 0 → take h (route_to s n) ≡ take g (route_to s m)
same_way topology s n m zero zero is in_n in_m in_h in_g same = refl
same_way topology s n m zero (suc g) is in_n in_m in_h in_g same =
    absurd (none-some (get_or (route_to s m) g 0)
    (sym (none_before topology s n is in_n) ∙ ap (port_before s) same ∙ before_on_route topology s m g is in_m in_g))
same_way topology s n m (suc h) zero is in_n in_m in_h in_g same =
    absurd (none-some (get_or (route_to s n) h 0)
    (sym (none_before topology s m is in_m) ∙ ap (port_before s) (sym same)
    ∙ before_on_route topology s n h is in_n in_h))
same_way topology s n m (suc h) (suc g) is in_n in_m in_h in_g same =
    let before : get_or (route_to s n) h 0 ≡ get_or (route_to s m) g 0 =
    same_Some (get_or (route_to s n) h 0) (get_or (route_to s m) g 0)
    (sym (before_on_route topology s n h is in_n in_h) ∙ ap (port_before s) same
    ∙ before_on_route topology s m g is in_m in_g) in
    let rest = same_way topology s n m h g is in_n in_m (omega (arith, in_h)) (omega (arith, in_g)) before in
    one_more (route_to s n) h (omega (arith, in_h))
    ∙ ap (λ (l : List ℕ). l ++ get_or (route_to s n) h 0 ∷ []) rest
    ∙ ap (λ (p : ℕ). take g (route_to s m) ++ p ∷ []) before
    ∙ sym (one_more (route_to s m) g (omega (arith, in_g)))
  where
    one_more : (path : List ℕ) (k : ℕ) → k < length path → take (suc k) path ≡ take k path ++ get_or path k 0 ∷ []
    one_more path k within = ap (λ (j : ℕ). take j path) (sym (add-one k)) ∙ take_more path k 0 within

-- where all routes that have a port come to it in this way, and one has it
way_is : (port : ℕ) (want : List ℕ) (routes : List (List ℕ))
    → All (λ (route : List ℕ). (h : ℕ) → h < length route → get_or route h 0 ≡ port → take h route ≡ want) routes
    → (n h : ℕ) → n < length routes → h < length (get_or routes n []) → get_or (get_or routes n []) h 0 ≡ port
    → in_front_on port routes ≡ want
way_is port want [] each n h in_n in_h at = absurd (omega (arith, in_n))
way_is port want (route ∷ routes) each n h in_n in_h at =
    elim (cases_Bool (list_any (is_port port) route)) as (λ _. in_front_on port (route ∷ routes) ≡ want) [
      | inl has ↦ cond-true (list_any (is_port port) route) (before_first (is_port port) route)
          (in_front_on port routes) has ∙ here has
      | inr not ↦ cond-false (list_any (is_port port) route) (before_first (is_port port) route)
          (in_front_on port routes) not
          ∙ rest (way_is port want routes (All-tail Comes route routes each)) not n in_n in_h at
    ]
  where
    Comes : List ℕ → Type 0
    Comes l = (h : ℕ) → h < length l → get_or l h 0 ≡ port → take h l ≡ want

    here : list_any (is_port port) route ≡ true → before_first (is_port port) route ≡ want
    here has =
        let place : ℕ = position_or_len (is_port port) route in
        elim (cases_lt place (length route)) as (λ _. before_first (is_port port) route ≡ want) [
          | inl inside ↦ All-head Comes route routes each place inside
              (eqb-true (get_or route place 0) port (passes_at_first (is_port port) route 0 inside))
          | inr past ↦ absurd (true≢false (sym has ∙ list_any_none (is_port port) route
              (λ k d w. fails_before_first (is_port port) route k d (omega (arith, past, w)))))
        ]

    rest : ((m g : ℕ) → m < length routes → g < length (get_or routes m []) → get_or (get_or routes m []) g 0 ≡ port
        → in_front_on port routes ≡ want)
        → list_any (is_port port) route ≡ false → (n : ℕ) → n < length (route ∷ routes)
        → h < length (get_or (route ∷ routes) n []) → get_or (get_or (route ∷ routes) n []) h 0 ≡ port
        → in_front_on port routes ≡ want
    rest further not zero in_n in_h at = absurd (true≢false
        (sym (list_any_at (is_port port) route h 0 in_h (eq-eqb (get_or route h 0) port at)) ∙ not))
    rest further not (suc m) in_n in_h at = further m h (omega (arith, in_n)) in_h at

-- so the ports by which frames come to that at a place of a route are those in front of it there
pub comes_by : (topology : DeclaredTopology) (s : Sender) (n h : ℕ) → IsSender topology s → n ≤ length s.branches
    → h < length (route_to s n) → ports_to s (get_or (route_to s n) h 0) ≡ take h (route_to s n)
comes_by topology s n h is in_n in_h =
    way_is (get_or (route_to s n) h 0) (take h (route_to s n)) (routes_of s.ports s.branches) each n h
    (omega (arith, in_n, routes-length s.ports s.branches)) in_h refl
  where
    each : All (λ (route : List ℕ). (g : ℕ) → g < length route → get_or route g 0 ≡ get_or (route_to s n) h 0
        → take g route ≡ take h (route_to s n)) (routes_of s.ports s.branches)
    each m d in_routes g in_g at =
        let route_is : get_or (routes_of s.ports s.branches) m d ≡ route_to s m =
        get_or_default (routes_of s.ports s.branches) m d [] in_routes in
        ap (take g) route_is
        ∙ same_way topology s m n g h is (omega (arith, in_routes, routes-length s.ports s.branches)) in_n
        (omega (arith, in_g, ap (λ (l : List ℕ). length l) route_is)) in_h
        (ap (λ (l : List ℕ). get_or l g 0) (sym route_is) ∙ at)
