-- The way of a frame to a listener, by the leg that leads there.
use Rattle.std.proofs.Common.{◌≡◌, ℕ, zero, suc, ◌+◌, ◌<◌, ◌≤◌, List, [], ◌∷◌, ◌++◌, length, take, get_or}
use Rattle.std.proofs.Common.{refl, sym, ap, ◌∙◌, arith}
use Rattle.std.specs.List.{slice_get}
use Rattle.std.proofs.lemmas.List.{append-nil, length-map}
use Rattle.ats_streams.specs.Branches.{AreBranches, leads_from, leg_at, no_branch}
use Rattle.ats_streams.specs.declared.branch.Branch.{Branch}
use Rattle.ats_network.specs.Sender.{Sender}
use Rattle.ats_trace.specs.Journey.{AreCopies, BeginsAs, IsCopy, Leg, Travel, legs_in, no_leg}
use Rattle.ats_trace.specs.Stored.{leg_in}
use Rattle.ats_trace.specs.Ways.{records_in, way_to}
use Rattle.ats_trace.specs.HopRecord.{HopRecord}
use Rattle.ats_trace.proofs.OneVerdict.{copies_many}
use Rattle.ats_route_law.proofs.Leads.{copy_at, joined_at, lead_first, lead_next, leads-many, records_at}

-- the records in front of a leg
abbrev pub leads_in : Sender → Travel → List (List HopRecord)
leads_in s j = leads_from (records_in j) ([] ∷ []) s.branches

-- a way has the records in front of the leg, and those of the leg
pub way_at : (s : Sender) (j : Travel) (leg : ℕ) → AreCopies s j → leg ≤ length s.branches
    → (way_to s j leg).hops ≡ leg_at (leads_in s j) leg ++ (leg_in j leg).hops
way_at s j leg copied within =
    let many : length (leads_in s j) ≡ 1 + length s.branches =
    leads-many (records_in j) ([] ∷ []) s.branches in
    let all : length (records_in j) ≡ length (legs_in j) = length-map (legs_in j) (λ (l : Leg). l.hops) in
    joined_at (leads_in s j) (records_in j) leg (omega (arith, many, within))
    (omega (arith, all, copies_many s j copied, within))
    ∙ ap (λ (l : List HopRecord). leg_at (leads_in s j) leg ++ l) (records_at (legs_in j) leg)

-- that to the first listener has those of the trunk
pub way_first : (s : Sender) (j : Travel) → AreCopies s j → (way_to s j 0).hops ≡ j.hops
way_first s j copied =
    way_at s j 0 copied (omega arith)
    ∙ ap (λ (l : List HopRecord). l ++ j.hops) (lead_first (records_in j) s.branches)

none_there : (hops : List HopRecord) (k : ℕ) (path : List ℕ) (leg : Leg) → leg.hops ≡ []
    → IsCopy (slice_get hops k) path leg → take k hops ≡ hops
none_there [] zero path leg none copy = refl
none_there [] (suc k) path leg none copy = refl
none_there (hop ∷ hops) zero path leg none copy = absurd (begun leg.hops none copy.0)
  where
    begun : (own : List HopRecord) → own ≡ [] → BeginsAs hop own → ⊥
    begun [] is begins = begins
    begun (own ∷ more) is begins = cc is
none_there (hop ∷ hops) (suc k) path leg none copy =
    ap (λ (l : List HopRecord). hop ∷ l) (none_there hops k path leg none copy)

-- where a branch has no record, the way there is that along the leg off which it branches
pub way_before : (s : Sender) (j : Travel) (n : ℕ) → AreBranches s.ports s.branches → AreCopies s j
    → n < length s.branches → (leg_in j (suc n)).hops ≡ []
    → (get_or s.branches n no_branch).leg ≤ length s.branches
    → (way_to s j (suc n)).hops ≡ (way_to s j (get_or s.branches n no_branch).leg).hops
way_before s j n are copied within none earlier =
    let b : Branch = get_or s.branches n no_branch in
    let leads : List (List HopRecord) = leads_in s j in
    let own : List HopRecord = (leg_in j b.leg).hops in
    let all : take b.hop own ≡ own =
    none_there own b.hop _ (get_or j.copies n no_leg) none (copy_at s j n copied within) in
    way_at s j (suc n) copied (omega (arith, within))
    ∙ ap (λ (l : List HopRecord). leg_at leads (suc n) ++ l) none ∙ append-nil (leg_at leads (suc n))
    ∙ lead_next s.ports s.branches (records_in j) n are within
    ∙ ap (λ (l : List HopRecord). leg_at leads b.leg ++ take b.hop l) (records_at (legs_in j) b.leg)
    ∙ ap (λ (l : List HopRecord). leg_at leads b.leg ++ l) all
    ∙ sym (way_at s j b.leg copied earlier)
