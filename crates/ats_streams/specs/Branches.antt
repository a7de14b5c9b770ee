use Rattle.std.specs.Prelude.{◌≡◌, ℕ, zero, suc, ◌+◌, ◌<◌, ◌≤◌, Bool, ◌||◌, nat_lt, List, [], ◌∷◌, ◌++◌, length, take}
use Rattle.std.specs.Prelude.{drop, slice_index_or, All}
use Rattle.std.specs.List.{slice_range, zip}
use Rattle.ats_streams.specs.declared.branch.Branch.{Branch}
use Rattle.ats_streams.specs.declared.branch.TheConstants.{MAX_BRANCHES}

-- the ports of legs, leg by leg, of which the first begins at a place: each goes up to where the next begins, and the
-- last one to the end
abbrev pub legs_from : ℕ → List ℕ → List Branch → List (List ℕ)
legs_from at ports [] = drop at ports ∷ []
legs_from at ports (b ∷ branches) = slice_range ports at b.first ∷ legs_from b.first ports branches

-- the ports of each leg of a stream: of the trunk, then of each branch
abbrev pub legs_of : List ℕ → List Branch → List (List ℕ)
legs_of ports branches = legs_from 0 ports branches

-- for numbers past the end of a list of branches
abbrev pub no_branch : Branch
no_branch = record { first = 0; leg = 0; hop = 0 }

-- the place of the first port of a leg, where the first leg begins at a place
abbrev pub first_from : ℕ → List Branch → ℕ → ℕ
first_from at branches zero = at
first_from at branches (suc n) = (slice_index_or branches n no_branch).first

-- of lists, leg by leg, that of the leg with a number: as of the ports of each leg, or of the records of a frame there
abbrev pub leg_at : {X : Type 0} → List (List X) → ℕ → List X
leg_at lists leg = slice_index_or lists leg []

-- the ports of the trunk, which lead to the first listener
abbrev pub trunk_of : List ℕ → List Branch → List ℕ
trunk_of ports branches = leg_at (legs_of ports branches) 0

-- each branch with its ports
abbrev pub branches_of : List ℕ → List Branch → List (Branch × List ℕ)
branches_of ports branches = zip branches (drop 1 (legs_of ports branches))

-- what leads to the node where a branch begins: what is in front of its leg, and what is of this leg in front of its
-- hop
abbrev pub lead_to : {X : Type 0} → List (List X) → List (List X) → Branch → List X
lead_to legs leads b = leg_at leads b.leg ++ take b.hop (leg_at legs b.leg)

-- what is in front of each leg, where that in front of the first legs is known
abbrev pub leads_from : {X : Type 0} → List (List X) → List (List X) → List Branch → List (List X)
leads_from legs leads [] = leads
leads_from legs leads (b ∷ branches) = leads_from legs (leads ++ lead_to legs leads b ∷ []) branches

-- lists joined one by one
abbrev pub joined : {X : Type 0} → List (List X) → List (List X) → List (List X)
joined (lead ∷ leads) (leg ∷ legs) = (lead ++ leg) ∷ joined leads legs
joined leads legs = []

-- each leg with what is in front of it, from the talker on: the trunk has nothing
abbrev pub with_leads : {X : Type 0} → List (List X) → List Branch → List (List X)
with_leads legs branches = joined (leads_from legs ([] ∷ []) branches) legs

-- the ports in front of each leg
abbrev pub leads_of : List ℕ → List Branch → List (List ℕ)
leads_of ports branches = leads_from (legs_of ports branches) ([] ∷ []) branches

-- the route to each listener, leg by leg: the ports in front of the leg, and those of the leg
abbrev pub routes_of : List ℕ → List Branch → List (List ℕ)
routes_of ports branches = with_leads (legs_of ports branches) branches

-- the ports of branches begin at places that ascend, behind this one and in front of the end
abbrev pub Ascend : ℕ → List Branch → ℕ → Type 0
Ascend at [] end = Unit {0}
Ascend at (b ∷ branches) end = (at < b.first) × (b.first < end) × Ascend b.first branches end

-- a branch begins at a hop of a leg with a lower number than its own; where this is the first hop of the leg, the leg
-- is the trunk, and the branch begins at the talker
pub record BeginsEarlier (legs : List (List ℕ)) (own : ℕ) (b : Branch) : Type 0 where
  pub earlier : b.leg < own
  pub at_talker : b.hop ≡ 0 → b.leg ≡ 0
  pub within : b.hop < length (leg_at legs b.leg)

-- so do branches, of which the first has this number among the legs
abbrev pub BeginEarlier : List (List ℕ) → ℕ → List Branch → Type 0
BeginEarlier legs own [] = Unit {0}
BeginEarlier legs own (b ∷ branches) = BeginsEarlier legs own b × BeginEarlier legs (own + 1) branches

-- what the branches of a stream keep: each of its legs has a port, and each branch begins at a hop of an earlier leg
-- that is not the first of a branch
pub record AreBranches (ports : List ℕ) (branches : List Branch) : Type 0 where
  pub places : Ascend 0 branches (length ports)
  pub begin : BeginEarlier (legs_of ports branches) 1 branches
  pub few : length branches ≤ MAX_BRANCHES

-- a route has no port, or more than so many
abbrev pub is_bad_route : ℕ → List ℕ → Bool
is_bad_route most route = nat_lt (length route) 1 || nat_lt most (length route)

-- each route has at most so many ports
abbrev pub AreShort : ℕ → List (List ℕ) → Type 0
AreShort most routes = All (λ (route : List ℕ). length route ≤ most) routes
