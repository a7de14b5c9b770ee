use Rattle.std.proofs.Common.{ℕ, zero, suc, ◌-◌, List, [], ◌∷◌, ◌++◌, take, drop}
use Rattle.std.specs.List.{All, slice_range}
use Rattle.std.proofs.lemmas.List.Elements.{All-append, All-cons, All-drop, All-head, All-nil, All-tail, All-take}
use Rattle.ats_streams.specs.Branches.{joined, leads_from, leads_of, leg_at, legs_from, legs_of, routes_of}
use Rattle.ats_streams.specs.declared.branch.Branch.{Branch}

-- what holds of each port of each list holds of each port of one of them
at_holds : (P : ℕ → Type 0) (lists : List (List ℕ)) (n : ℕ) → All (All P) lists → All P (leg_at lists n)
at_holds P [] n all = All-nil P
at_holds P (ports ∷ lists) zero all = All-head (All P) ports lists all
at_holds P (ports ∷ lists) (suc n) all = at_holds P lists n (All-tail (All P) ports lists all)

-- what holds of each port holds of each port of each leg
leg_holds : (P : ℕ → Type 0) (at : ℕ) (ports : List ℕ) (branches : List Branch) → All P ports
    → All (All P) (legs_from at ports branches)
leg_holds P at ports [] all =
    All-cons (All P) (drop at ports) [] (All-drop P at ports all) (All-nil (All P))
leg_holds P at ports (b ∷ branches) all =
    All-cons (All P) (slice_range ports at b.first) (legs_from b.first ports branches)
    (All-take P (b.first - at) (drop at ports) (All-drop P at ports all))
    (leg_holds P b.first ports branches all)

lead_holds : (P : ℕ → Type 0) (legs leads : List (List ℕ)) (branches : List Branch) → All (All P) legs
    → All (All P) leads → All (All P) (leads_from legs leads branches)
lead_holds P legs leads [] each all = all
lead_holds P legs leads (b ∷ branches) each all =
    let front : List ℕ = take b.hop (leg_at legs b.leg) in
    let lead : List ℕ = leg_at leads b.leg ++ front in
    lead_holds P legs (leads ++ lead ∷ []) branches each
    (All-append (All P) leads (lead ∷ []) all
    (All-cons (All P) lead [] (All-append P (leg_at leads b.leg) front (at_holds P leads b.leg all)
    (All-take P b.hop (leg_at legs b.leg) (at_holds P legs b.leg each))) (All-nil (All P))))

joined_hold : (P : ℕ → Type 0) (leads legs : List (List ℕ)) → All (All P) leads → All (All P) legs
    → All (All P) (joined leads legs)
joined_hold P [] legs before own = All-nil (All P)
joined_hold P (lead ∷ leads) [] before own = All-nil (All P)
joined_hold P (lead ∷ leads) (leg ∷ legs) before own =
    All-cons (All P) (lead ++ leg) (joined leads legs)
    (All-append P lead leg (All-head (All P) lead leads before) (All-head (All P) leg legs own))
    (joined_hold P leads legs (All-tail (All P) lead leads before) (All-tail (All P) leg legs own))

-- what holds of each port of a stream holds of each port of each of its routes
pub each_on_routes : (P : ℕ → Type 0) (ports : List ℕ) (branches : List Branch) → All P ports
    → All (All P) (routes_of ports branches)
each_on_routes P ports branches all =
    let legs : List (List ℕ) = legs_of ports branches in
    let own : All (All P) legs = leg_holds P 0 ports branches all in
    joined_hold P (leads_of ports branches) legs
    (lead_holds P legs ([] ∷ []) branches own (All-cons (All P) [] [] (All-nil P) (All-nil (All P)))) own
