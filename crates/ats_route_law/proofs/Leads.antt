-- What leads to a leg, of ports as of records.
use Rattle.std.proofs.Common.{◌≡◌, ℕ, zero, suc, ◌+◌, ◌<◌, List, [], ◌∷◌, ◌++◌, length, map, take, drop, get_or}
use Rattle.std.proofs.Common.{refl, sym, ap, ◌∙◌, subst, arith, length-append}
use Rattle.std.specs.List.{zip}
use Rattle.std.proofs.Math.Seq.{get_or-append_seam}
use Rattle.std.proofs.lemmas.List.{get_or_append_left}
use Rattle.std.proofs.lemmas.Slice.Zip.{get_or-zip, length-zip}
use Rattle.ats_streams.specs.Branches.{AreBranches, BeginEarlier, joined, lead_to, leads_from, leg_at}
use Rattle.ats_streams.specs.Branches.{legs_of, no_branch}
use Rattle.ats_streams.specs.declared.branch.Branch.{Branch}
use Rattle.ats_streams.proofs.BranchLemmas.{legs-length}
use Rattle.ats_network.specs.Sender.{Sender}
use Rattle.ats_trace.specs.Journey.{Leg, Travel, AreCopies, IsCopy, legs_in, no_leg, record_at}
use Rattle.ats_trace.proofs.Legs.{legs_cons}
use Rattle.ats_trace.proofs.OneVerdict.{zip_at}

-- there is one for each leg
pub leads-many : {X : Type 0} (legs leads : List (List X)) (branches : List Branch)
    → length (leads_from legs leads branches) ≡ length leads + length branches
leads-many legs leads [] = omega arith
leads-many legs leads (b ∷ branches) =
    omega (
      arith,
      leads-many legs (leads ++ lead_to legs leads b ∷ []) branches,
      length-append leads (lead_to legs leads b ∷ []),
    )

-- what leads to the first legs stays
leads_stay : {X : Type 0} (legs leads : List (List X)) (branches : List Branch) (i : ℕ) → i < length leads
    → leg_at (leads_from legs leads branches) i ≡ leg_at leads i
leads_stay legs leads [] i within = refl
leads_stay legs leads (b ∷ branches) i within =
    leads_stay legs (leads ++ lead_to legs leads b ∷ []) branches i
    (omega (arith, length-append leads (lead_to legs leads b ∷ []), within))
    ∙ get_or_append_left leads (lead_to legs leads b ∷ []) [] i within

-- to the trunk nothing leads
pub lead_first : {X : Type 0} (legs : List (List X)) (branches : List Branch)
    → leg_at (leads_from legs ([] ∷ []) branches) 0 ≡ []
lead_first legs branches = leads_stay legs ([] ∷ []) branches 0 (omega arith)

-- to a branch, what leads to its leg and what is of this leg in front of its hop
lead_from : {X : Type 0} (paths : List (List ℕ)) (legs leads : List (List X)) (branches : List Branch) (n : ℕ)
    → BeginEarlier paths (length leads) branches → n < length branches
    → leg_at (leads_from legs leads branches) (length leads + n)
    ≡ lead_to legs (leads_from legs leads branches) (get_or branches n no_branch)
lead_from paths legs leads [] n begin within = absurd (omega arith)
lead_from {X} paths legs leads (b ∷ branches) zero begin within =
    let lead : List X = lead_to legs leads b in
    let more : List (List X) = leads ++ lead ∷ [] in
    let long : length more ≡ length leads + 1 = length-append leads (lead ∷ []) in
    let earlier : leg_at (leads_from legs more branches) b.leg ≡ leg_at leads b.leg =
    leads_stay legs more branches b.leg (omega (arith, long, begin.0.earlier))
    ∙ get_or_append_left leads (lead ∷ []) [] b.leg begin.0.earlier in
    let here : length leads + 0 ≡ length leads = omega arith in
    ap (λ (i : ℕ). leg_at (leads_from legs more branches) i) here
    ∙ leads_stay legs more branches (length leads) (omega (arith, long))
    ∙ get_or-append_seam leads lead [] []
    ∙ ap (λ (l : List X). l ++ take b.hop (leg_at legs b.leg)) (sym earlier)
lead_from {X} paths legs leads (b ∷ branches) (suc n) begin within =
    let lead : List X = lead_to legs leads b in
    let more : List (List X) = leads ++ lead ∷ [] in
    let long : length more ≡ length leads + 1 = length-append leads (lead ∷ []) in
    let next : length leads + suc n ≡ length more + n = omega (arith, long) in
    ap (λ (i : ℕ). leg_at (leads_from legs more branches) i) next
    ∙ lead_from paths legs more branches n (subst (λ (k : ℕ). BeginEarlier paths k branches) (sym long) begin.1)
    (omega (arith, within))

pub lead_next : {X : Type 0} (ports : List ℕ) (branches : List Branch) (legs : List (List X)) (n : ℕ)
    → AreBranches ports branches → n < length branches
    → leg_at (leads_from legs ([] ∷ []) branches) (suc n)
    ≡ lead_to legs (leads_from legs ([] ∷ []) branches) (get_or branches n no_branch)
lead_next ports branches legs n are within =
    ap (λ (k : ℕ). leg_at (leads_from legs ([] ∷ []) branches) k) (omega arith)
    ∙ lead_from (legs_of ports branches) legs ([] ∷ []) branches n are.begin within

-- of lists that are joined one by one
pub joined_at : {X : Type 0} (leads legs : List (List X)) (i : ℕ) → i < length leads → i < length legs
    → leg_at (joined leads legs) i ≡ leg_at leads i ++ leg_at legs i
joined_at [] legs i in_leads in_legs = absurd (omega arith)
joined_at (lead ∷ leads) [] i in_leads in_legs = absurd (omega arith)
joined_at (lead ∷ leads) (leg ∷ legs) zero in_leads in_legs = refl
joined_at (lead ∷ leads) (leg ∷ legs) (suc i) in_leads in_legs =
    joined_at leads legs i (omega (arith, in_leads)) (omega (arith, in_legs))

-- the records along a leg
pub records_at : (legs : List Leg) (m : ℕ)
    → leg_at (map (λ (leg : Leg). leg.hops) legs) m ≡ (get_or legs m no_leg).hops
records_at [] m = refl
records_at (leg ∷ legs) zero = refl
records_at (leg ∷ legs) (suc m) = records_at legs m

-- the legs behind the trunk
pub leg_next : (ports : List ℕ) (branches : List Branch) (n : ℕ)
    → leg_at (legs_of ports branches) (suc n) ≡ leg_at (drop 1 (legs_of ports branches)) n
leg_next ports branches n = ap (λ (legs : List (List ℕ)). leg_at legs (suc n)) (legs_cons ports branches)

-- the copy along a branch
pub copy_at : (s : Sender) (j : Travel) (n : ℕ) → AreCopies s j → n < length s.branches
    → IsCopy (record_at (legs_in j) (get_or s.branches n no_branch)) (leg_at (legs_of s.ports s.branches) (suc n))
    (get_or j.copies n no_leg)
copy_at s j n copied within =
    let rest : List (List ℕ) = drop 1 (legs_of s.ports s.branches) in
    let d : Branch × List ℕ = (no_branch, []) in
    let Copies : Branch × List ℕ → Leg → Type 0 =
    λ (branch : Branch × List ℕ) (leg : Leg). IsCopy (record_at (legs_in j) branch.0) branch.1 leg in
    let many : length (legs_of s.ports s.branches) ≡ suc (length s.branches) = legs-length 0 s.ports s.branches in
    let behind : length (legs_of s.ports s.branches) ≡ suc (length rest) =
    ap (λ (l : List (List ℕ)). length l) (legs_cons s.ports s.branches) in
    let long : n < length (zip s.branches rest) = omega (arith, length-zip s.branches rest, many, behind, within) in
    let at : get_or (zip s.branches rest) n d ≡ (get_or s.branches n no_branch, get_or rest n []) =
    get_or-zip s.branches rest n d within (omega (arith, many, behind, within)) in
    subst (λ (path : List ℕ). IsCopy (record_at (legs_in j) (get_or s.branches n no_branch)) path
    (get_or j.copies n no_leg)) (sym (leg_next s.ports s.branches n))
    (subst (λ (branch : Branch × List ℕ). Copies branch (get_or j.copies n no_leg)) at
    (zip_at Copies (zip s.branches rest) j.copies n d no_leg copied long))
