use Rattle.std.proofs.Common.{◌≡◌, ℕ, zero, suc, ◌+◌, ◌-◌, ◌<◌, ◌≤◌, List, [], ◌∷◌, ◌++◌, length, take, drop, get_or}
use Rattle.std.proofs.Common.{Bool, true, false, ◌||◌, ltb, ◌⊎◌, inl, inr}
use Rattle.std.proofs.Common.{refl, sym, ap, subst, ◌∙◌, arith, length-append, length-drop, length-take}
use Rattle.std.specs.List.{list_any, slice_range}
use Rattle.std.proofs.lemmas.Bool.{cases_lt, lt-ltb}
use Rattle.std.proofs.lemmas.List.Folds.{list_any_at, list_any_more}
use Rattle.std.proofs.Math.Seq.{get_or-append_seam}
use Rattle.std.proofs.lemmas.List.{get_or_append_left, take_all}
use Rattle.ats_streams.specs.Branches.{Ascend, AreBranches, BeginEarlier, BeginsEarlier, is_bad_route, joined}
use Rattle.ats_streams.specs.Branches.{lead_to, leads_from}
use Rattle.ats_streams.specs.Branches.{first_from, leads_of, leg_at, legs_from, legs_of, no_branch, routes_of}
use Rattle.ats_streams.specs.Stream.{DeclaredStream, IsStream}
use Rattle.ats_streams.specs.declared.branch.Branch.{Branch}

-- a stream has a leg more than branches
pub legs-length : (at : ℕ) (ports : List ℕ) (branches : List Branch)
    → length (legs_from at ports branches) ≡ suc (length branches)
legs-length at ports [] = refl
legs-length at ports (b ∷ branches) = ap suc (legs-length b.first ports branches)

first_step : (at : ℕ) (b : Branch) (branches : List Branch) (n : ℕ)
    → first_from b.first branches n ≡ first_from at (b ∷ branches) (suc n)
first_step at b branches zero = refl
first_step at b branches (suc n) = refl

-- a leg but the last goes up to the first port of the next one
pub leg_between : (at : ℕ) (ports : List ℕ) (branches : List Branch) (n : ℕ) → n < length branches
    → leg_at (legs_from at ports branches) n
    ≡ slice_range ports (first_from at branches n) (get_or branches n no_branch).first
leg_between at ports [] n within = absurd (omega arith)
leg_between at ports (b ∷ branches) zero within = refl
leg_between at ports (b ∷ branches) (suc n) within =
    leg_between b.first ports branches n (omega arith)
    ∙ ap (λ (from : ℕ). slice_range ports from (get_or branches n no_branch).first) (first_step at b branches n)

-- the last leg goes up to the end
pub leg_last : (at : ℕ) (ports : List ℕ) (branches : List Branch)
    → leg_at (legs_from at ports branches) (length branches) ≡ drop (first_from at branches (length branches)) ports
leg_last at ports [] = refl
leg_last at ports (b ∷ branches) = leg_last b.first ports branches
    ∙ ap (λ (from : ℕ). drop from ports) (first_step at b branches (length branches))

-- legs begin at places that ascend up to the end
pub record IsPlaced (from to end : ℕ) : Type 0 where
  pub ascends : from < to
  pub within : to < end

pub placed : (at : ℕ) (branches : List Branch) (end n : ℕ) → Ascend at branches end → n < length branches
    → IsPlaced (first_from at branches n) (get_or branches n no_branch).first end
placed at [] end n ascend within = absurd (omega arith)
placed at (b ∷ branches) end zero ascend within = record { ascends = ascend.0; within = ascend.1 }
placed at (b ∷ branches) end (suc n) ascend within =
    subst (λ (from : ℕ). IsPlaced from (get_or branches n no_branch).first end) (first_step at b branches n)
    (placed b.first branches end n ascend.2 (omega arith))

-- each branch begins at an earlier leg
pub begins_at : (legs : List (List ℕ)) (own : ℕ) (branches : List Branch) (n : ℕ) → BeginEarlier legs own branches
    → n < length branches → BeginsEarlier legs (own + n) (get_or branches n no_branch)
begins_at legs own [] n begin within = absurd (omega arith)
begins_at legs own (b ∷ branches) zero begin within =
    subst (λ (k : ℕ). BeginsEarlier legs k b) (omega arith) begin.0
begins_at legs own (b ∷ branches) (suc n) begin within =
    subst (λ (k : ℕ). BeginsEarlier legs k (get_or branches n no_branch)) (omega arith)
    (begins_at legs (own + 1) branches n begin.1 (omega arith))

-- it begins behind a port of its leg, or at the talker
pub behind_or_talker : (legs : List (List ℕ)) (own : ℕ) (b : Branch) → BeginsEarlier legs own b
    → (1 ≤ b.hop) ⊎ ((b.leg ≡ 0) × (b.hop ≡ 0))
behind_or_talker legs own b begins = elim (cases_lt 0 b.hop) as (λ _. (1 ≤ b.hop) ⊎ ((b.leg ≡ 0) × (b.hop ≡ 0))) [
  | inl later ↦ inl (omega (arith, later))
  | inr none ↦ (let zero : b.hop ≡ 0 = omega (arith, none) in inr (begins.at_talker zero, zero))
]

pub leads-length : (legs leads : List (List ℕ)) (branches : List Branch)
    → length (leads_from legs leads branches) ≡ length leads + length branches
leads-length legs leads [] = omega arith
leads-length legs leads (b ∷ branches) =
    omega (
      arith,
      leads-length legs (leads ++ lead_to legs leads b ∷ []) branches,
      length-append leads (lead_to legs leads b ∷ []),
    )

-- what is known of the first legs stays
leads_kept : (legs leads : List (List ℕ)) (branches : List Branch) (i : ℕ) → i < length leads
    → leg_at (leads_from legs leads branches) i ≡ leg_at leads i
leads_kept legs leads [] i within = refl
leads_kept legs leads (b ∷ branches) i within =
    leads_kept legs (leads ++ lead_to legs leads b ∷ []) branches i
    (omega (arith, length-append leads (lead_to legs leads b ∷ []), within))
    ∙ get_or_append_left leads (lead_to legs leads b ∷ []) [] i within

lead_from : (legs leads : List (List ℕ)) (branches : List Branch) (n : ℕ) → BeginEarlier legs (length leads) branches
    → n < length branches → leg_at (leads_from legs leads branches) (length leads + n)
    ≡ lead_to legs (leads_from legs leads branches) (get_or branches n no_branch)
lead_from legs leads [] n begin within = absurd (omega arith)
lead_from legs leads (b ∷ branches) zero begin within =
    let lead : List ℕ = lead_to legs leads b in
    let more : List (List ℕ) = leads ++ lead ∷ [] in
    let long : length more ≡ length leads + 1 = length-append leads (lead ∷ []) in
    let earlier : leg_at (leads_from legs more branches) b.leg ≡ leg_at leads b.leg =
    leads_kept legs more branches b.leg (omega (arith, long, begin.0.earlier))
    ∙ get_or_append_left leads (lead ∷ []) [] b.leg begin.0.earlier in
    let here : length leads + 0 ≡ length leads = omega arith in
    ap (λ (i : ℕ). leg_at (leads_from legs more branches) i) here
    ∙ leads_kept legs more branches (length leads) (omega (arith, long))
    ∙ get_or-append_seam leads lead [] []
    ∙ ap (λ (l : List ℕ). l ++ take b.hop (leg_at legs b.leg)) (sym earlier)
lead_from legs leads (b ∷ branches) (suc n) begin within =
    let lead : List ℕ = lead_to legs leads b in
    let more : List (List ℕ) = leads ++ lead ∷ [] in
    let long : length more ≡ length leads + 1 = length-append leads (lead ∷ []) in
    let next : length leads + suc n ≡ length more + n = omega (arith, long) in
    ap (λ (i : ℕ). leg_at (leads_from legs more branches) i) next
    ∙ lead_from legs more branches n (subst (λ (k : ℕ). BeginEarlier legs k branches) (sym long) begin.1) (omega arith)

-- the ports in front of the legs of a stream
pub lead_of : (ports : List ℕ) (branches : List Branch) (n : ℕ) → AreBranches ports branches → n < length branches
    → leg_at (leads_of ports branches) (1 + n)
    ≡ lead_to (legs_of ports branches) (leads_of ports branches) (get_or branches n no_branch)
lead_of ports branches n are within = lead_from (legs_of ports branches) ([] ∷ []) branches n are.begin within

-- the trunk has none in front of it
pub lead_of_trunk : (ports : List ℕ) (branches : List Branch) → leg_at (leads_of ports branches) 0 ≡ []
lead_of_trunk ports branches = leads_kept (legs_of ports branches) ([] ∷ []) branches 0 (omega arith)

joined-length : (leads legs : List (List ℕ)) → length leads ≡ length legs
    → length (joined leads legs) ≡ length leads
joined-length [] legs same = refl
joined-length (lead ∷ leads) [] same = absurd (omega arith)
joined-length (lead ∷ leads) (leg ∷ legs) same = ap suc (joined-length leads legs (omega arith))

joined-at : (leads legs : List (List ℕ)) (i : ℕ) (d : List ℕ) → i < length leads → i < length legs
    → get_or (joined leads legs) i d ≡ leg_at leads i ++ leg_at legs i
joined-at [] legs i d in_leads in_legs = absurd (omega arith)
joined-at (lead ∷ leads) [] i d in_leads in_legs = absurd (omega arith)
joined-at (lead ∷ leads) (leg ∷ legs) zero d in_leads in_legs = refl
joined-at (lead ∷ leads) (leg ∷ legs) (suc i) d in_leads in_legs =
    joined-at leads legs i d (omega arith) (omega arith)

-- a stream has as many routes as legs
pub routes-length : (ports : List ℕ) (branches : List Branch)
    → length (routes_of ports branches) ≡ suc (length branches)
routes-length ports branches =
    let legs : List (List ℕ) = legs_of ports branches in
    let leads : List (List ℕ) = leads_of ports branches in
    let many : length leads ≡ 1 + length branches = leads-length legs ([] ∷ []) branches in
    let as_many : length legs ≡ suc (length branches) = legs-length 0 ports branches in
    joined-length leads legs (omega (arith, many, as_many)) ∙ (omega (arith, many))

-- a route has the ports in front of its leg, and those of the leg
pub route-at : (ports : List ℕ) (branches : List Branch) (n : ℕ) (d : List ℕ) → n ≤ length branches
    → get_or (routes_of ports branches) n d ≡ leg_at (leads_of ports branches) n ++ leg_at (legs_of ports branches) n
route-at ports branches n d within =
    let legs : List (List ℕ) = legs_of ports branches in
    let leads : List (List ℕ) = leads_of ports branches in
    joined-at leads legs n d
    (omega (arith, leads-length legs ([] ∷ []) branches, within))
    (omega (arith, legs-length 0 ports branches, within))

-- the ports in front of a branch are those in front of its leg, and as many of that leg as its hop tells
pub lead-length : (ports : List ℕ) (branches : List Branch) (n : ℕ) → AreBranches ports branches → n < length branches
    → length (leg_at (leads_of ports branches) (1 + n))
    ≡ (get_or branches n no_branch).hop
    + length (leg_at (leads_of ports branches) (get_or branches n no_branch).leg)
lead-length ports branches n are within =
    let b : Branch = get_or branches n no_branch in
    let legs : List (List ℕ) = legs_of ports branches in
    let leads : List (List ℕ) = leads_of ports branches in
    let begins : BeginsEarlier legs (1 + n) b = begins_at legs 1 branches n are.begin within in
    let front : List ℕ = take b.hop (leg_at legs b.leg) in
    ap (λ (l : List ℕ). length l) (lead_of ports branches n are within)
    ∙ omega (arith, length-append (leg_at leads b.leg) front, length-take b.hop (leg_at legs b.leg), begins.within)

pub trunk_within : (ports : List ℕ) (branches : List Branch) → length (leg_at (legs_of ports branches) 0) ≤ length ports
trunk_within ports [] = omega arith
trunk_within ports (b ∷ branches) = omega (arith, length-take (b.first - 0) ports)

-- a stream has a port
pub some_port : (s : DeclaredStream) → IsStream s → 1 ≤ length s.ports
some_port s is =
    let lead : List ℕ = leg_at (leads_of s.ports s.branches) 0 in
    let trunk : List ℕ = leg_at (legs_of s.ports s.branches) 0 in
    let route : List ℕ = get_or (routes_of s.ports s.branches) 0 [] in
    let many : length (routes_of s.ports s.branches) ≡ suc (length s.branches) = routes-length s.ports s.branches in
    let some : 1 ≤ length route = (is.routes 0 [] (omega (arith, many))).least in
    let whole : length route ≡ length (lead ++ trunk) =
    ap (λ (l : List ℕ). length l) (route-at s.ports s.branches 0 [] (omega arith)) in
    let none : length lead ≡ 0 = ap (λ (l : List ℕ). length l) (lead_of_trunk s.ports s.branches) in
    omega (arith, some, whole, length-append lead trunk, none, trunk_within s.ports s.branches)

-- two places between which the ports of a leg stand
pub record Spans (ports : List ℕ) (branches : List Branch) (leg from to : ℕ) : Type 0 where
  pub ordered : from ≤ to
  pub within : to ≤ length ports
  pub leg_is : slice_range ports from to ≡ leg_at (legs_of ports branches) leg

pub spans_between : (ports : List ℕ) (branches : List Branch) (leg : ℕ) → AreBranches ports branches
    → leg < length branches
    → Spans ports branches leg (first_from 0 branches leg) (get_or branches leg no_branch).first
spans_between ports branches leg are within =
    let one : IsPlaced (first_from 0 branches leg) (get_or branches leg no_branch).first (length ports) =
    placed 0 branches (length ports) leg are.places within in
    record {
      ordered = omega (arith, one.ascends);
      within = omega (arith, one.within);
      leg_is = sym (leg_between 0 ports branches leg within);
    }

-- the last leg begins at a place that there is, or at the end
first_within : (branches : List Branch) (end leg : ℕ) → Ascend 0 branches end → leg ≤ length branches
    → first_from 0 branches leg ≤ end
first_within branches end zero ascend within = omega arith
first_within branches end (suc n) ascend within =
    let one : IsPlaced (first_from 0 branches n) (get_or branches n no_branch).first end =
    placed 0 branches end n ascend (omega arith) in
    omega (arith, one.within)

pub spans_last : (ports : List ℕ) (branches : List Branch) → AreBranches ports branches
    → Spans ports branches (length branches) (first_from 0 branches (length branches)) (length ports)
spans_last ports branches are =
    let from : ℕ = first_from 0 branches (length branches) in
    let within : from ≤ length ports = first_within branches (length ports) (length branches) are.places (omega arith)
    in
    record {
      ordered = within;
      within = omega arith;
      leg_is = take_all (length ports - from) (drop from ports) (omega (arith, length-drop from ports, within))
          ∙ sym (leg_last 0 ports branches);
    }

-- as many ports as those of a route and some more
pub bad_when_over : (most : ℕ) (route : List ℕ) (many : ℕ) → most < many → many ≤ length route
    → true ≡ is_bad_route most route
bad_when_over most route many over within =
    let past : ltb most (length route) ≡ true = lt-ltb most (length route) (omega (arith, over, within)) in
    sym (ap (λ (t : Bool). ltb (length route) 1 || t) past ∙ or-true (ltb (length route) 1))
  where
    or-true : (t : Bool) → (t || true) ≡ true
    or-true true = refl
    or-true false = refl

-- where so many ports and those in front of a leg are as many as the route has
pub record Counts (ports : List ℕ) (branches : List Branch) (leg at many : ℕ) : Type 0 where
  pub many_is : many + length (leg_at (leads_of ports branches) at)
      ≡ length (leg_at (leads_of ports branches) leg) + length (leg_at (legs_of ports branches) leg)
  pub within : at ≤ length branches

pub counts_next : (ports : List ℕ) (branches : List Branch) (leg at many : ℕ) → AreBranches ports branches
    → Counts ports branches leg at many → 0 < at
    → Counts ports branches leg (get_or branches (at - 1) no_branch).leg
    (many + (get_or branches (at - 1) no_branch).hop)
counts_next ports branches leg at many are so_far some =
    let b : Branch = get_or branches (at - 1) no_branch in
    let below : at - 1 < length branches = omega (arith, some, so_far.within) in
    let begins : BeginsEarlier (legs_of ports branches) (1 + (at - 1)) b =
    begins_at (legs_of ports branches) 1 branches (at - 1) are.begin below in
    let next : 1 + (at - 1) ≡ at = omega (arith, some) in
    let lead : length (leg_at (leads_of ports branches) at)
    ≡ b.hop + length (leg_at (leads_of ports branches) b.leg) =
    ap (λ (k : ℕ). length (leg_at (leads_of ports branches) k)) (sym next)
    ∙ lead-length ports branches (at - 1) are below in
    record {
      many_is = omega (arith, so_far.many_is, lead);
      within = omega (arith, begins.earlier, so_far.within);
    }

pub leg_falls : (ports : List ℕ) (branches : List Branch) (at : ℕ) → AreBranches ports branches
    → at ≤ length branches → 0 < at → (get_or branches (at - 1) no_branch).leg < at
leg_falls ports branches at are within some =
    let begins : BeginsEarlier (legs_of ports branches) (1 + (at - 1)) (get_or branches (at - 1) no_branch) =
    begins_at (legs_of ports branches) 1 branches (at - 1) are.begin (omega (arith, some, within)) in
    omega (arith, begins.earlier, some)

pub counted_over : (ports : List ℕ) (branches : List Branch) (leg at many most : ℕ) → Counts ports branches leg at many
    → most < many
    → true ≡ is_bad_route most (leg_at (leads_of ports branches) leg ++ leg_at (legs_of ports branches) leg)
counted_over ports branches leg at many most so_far over =
    let lead : List ℕ = leg_at (leads_of ports branches) leg in
    let own : List ℕ = leg_at (legs_of ports branches) leg in
    bad_when_over most (lead ++ own) many over (omega (arith, so_far.many_is, length-append lead own))

pub counted_all : (ports : List ℕ) (branches : List Branch) (leg at many most : ℕ) → Counts ports branches leg at many
    → at ≡ 0 → (ltb many 1 || ltb most many)
    ≡ is_bad_route most (leg_at (leads_of ports branches) leg ++ leg_at (legs_of ports branches) leg)
counted_all ports branches leg at many most so_far none =
    let lead : List ℕ = leg_at (leads_of ports branches) leg in
    let own : List ℕ = leg_at (legs_of ports branches) leg in
    let front : length (leg_at (leads_of ports branches) at) ≡ 0 =
    ap (λ (k : ℕ). length (leg_at (leads_of ports branches) k)) none
    ∙ ap (λ (l : List ℕ). length l) (lead_of_trunk ports branches) in
    let all : many ≡ length (lead ++ own) = omega (arith, so_far.many_is, front, length-append lead own) in
    ap (λ (n : ℕ). ltb n 1 || ltb most n) all

-- whether one route more is bad
pub bad_here : (ports : List ℕ) (branches : List Branch) (leg most : ℕ) (bad : Bool) → leg < length branches + 1
    → bad ≡ is_bad_route most (leg_at (leads_of ports branches) leg ++ leg_at (legs_of ports branches) leg)
    → is_bad_route most (get_or (routes_of ports branches) leg []) ≡ bad
bad_here ports branches leg most bad within is =
    ap (is_bad_route most) (route-at ports branches leg [] (omega (arith, within))) ∙ sym is

pub one_is_bad : (ports : List ℕ) (branches : List Branch) (leg most : ℕ) (bad : Bool) → leg < length branches + 1
    → bad ≡ is_bad_route most (leg_at (leads_of ports branches) leg ++ leg_at (legs_of ports branches) leg)
    → bad ≡ true → true ≡ list_any (is_bad_route most) (routes_of ports branches)
one_is_bad ports branches leg most bad within is yes' =
    sym (list_any_at (is_bad_route most) (routes_of ports branches) leg []
    (omega (arith, within, routes-length ports branches)) (bad_here ports branches leg most bad within is ∙ yes'))

pub none_more : (ports : List ℕ) (branches : List Branch) (leg most : ℕ) (bad : Bool) → leg < length branches + 1
    → bad ≡ is_bad_route most (leg_at (leads_of ports branches) leg ++ leg_at (legs_of ports branches) leg)
    → bad ≡ false → list_any (is_bad_route most) (take leg (routes_of ports branches)) ≡ false
    → list_any (is_bad_route most) (take (leg + 1) (routes_of ports branches)) ≡ false
none_more ports branches leg most bad within is no' so_far =
    list_any_more (is_bad_route most) (routes_of ports branches) leg []
    (omega (arith, within, routes-length ports branches))
    ∙ ap (λ (t : Bool). t || is_bad_route most (get_or (routes_of ports branches) leg [])) so_far
    ∙ bad_here ports branches leg most bad within is ∙ no'

pub none_bad : (ports : List ℕ) (branches : List Branch) (leg most : ℕ) → length branches + 1 ≤ leg
    → list_any (is_bad_route most) (take leg (routes_of ports branches)) ≡ false
    → false ≡ list_any (is_bad_route most) (routes_of ports branches)
none_bad ports branches leg most past so_far =
    sym (ap (list_any (is_bad_route most)) (sym (take_all leg (routes_of ports branches)
    (omega (arith, past, routes-length ports branches)))) ∙ so_far)

pub spans_here : (ports : List ℕ) (branches : List Branch) (leg from : ℕ) → AreBranches ports branches
    → leg < length branches → from ≡ first_from 0 branches leg
    → Spans ports branches leg from (get_or branches leg no_branch).first
spans_here ports branches leg from are within is =
    subst (λ (n : ℕ). Spans ports branches leg n (get_or branches leg no_branch).first) (sym is)
    (spans_between ports branches leg are within)

pub spans_end : (ports : List ℕ) (branches : List Branch) (leg from : ℕ) → AreBranches ports branches
    → leg ≡ length branches → from ≡ first_from 0 branches leg → Spans ports branches leg from (length ports)
spans_end ports branches leg from are last is =
    subst (λ (n : ℕ). Spans ports branches leg n (length ports)) (sym is)
    (subst (λ (l : ℕ). Spans ports branches l (first_from 0 branches l) (length ports)) (sym last)
    (spans_last ports branches are))
