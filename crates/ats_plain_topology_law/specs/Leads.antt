use Rattle.std.specs.Prelude.{◌≡◌, ◌↔◌, ℕ, ◌+◌, ◌<◌, List, [], ◌∷◌, length, map, take, drop, zip, slice_index}
use Rattle.std.specs.Prelude.{slice_index_or}
use Rattle.ats_streams.specs.Branches.{Ascend, BeginEarlier, BeginsEarlier, branches_of, joined, leads_from, legs_of}
use Rattle.ats_streams.specs.Branches.{no_branch, trunk_of, with_leads}
use Rattle.ats_streams.specs.declared.branch.Branch.{Branch}

-- the places at which branches begin ascend, behind the one that is given and in front of the end; each branch, where
-- they are numbered one after the other from a given number on, begins at an earlier leg; and past the end of their
-- list stands one of zeros
pub record BeginningsAreGiven : Type 0 where
  pub ascend : (at end : ℕ) (branches : List Branch) → Ascend at branches end
      ↔ ((n : ℕ) → n < length branches
      → (slice_index (at ∷ map (λ (b : Branch). b.first) branches) n
      < slice_index (map (λ (b : Branch). b.first) branches) n)
      × (slice_index (map (λ (b : Branch). b.first) branches) n < end))
  pub begin : (legs : List (List ℕ)) (own : ℕ) (branches : List Branch) → BeginEarlier legs own branches
      ↔ ((n : ℕ) → n < length branches → BeginsEarlier legs (own + n) (slice_index_or branches n no_branch))
  pub past : no_branch ≡ record { first = 0; leg = 0; hop = 0 }

-- the trunk has all ports where there is no branch, and else those in front of the first one's; and the branches, in
-- their order, stand with the legs behind the trunk's
pub record TrunksAreGiven : Type 0 where
  pub alone : (ports : List ℕ) → trunk_of ports [] ≡ ports
  pub trunk : (ports : List ℕ) (b : Branch) (branches : List Branch) → trunk_of ports (b ∷ branches)
      ≡ take b.first ports
  pub branches : (ports : List ℕ) (branches : List Branch) → branches_of ports branches
      ≡ zip branches (drop 1 (legs_of ports branches))

-- whatever is listed of legs is joined to what is in front of each, of the trunk nothing, and no further than both
-- lists go. The words are for lists of any type
pub record JoinsAreGiven : Type 0 where
  pub leads : (legs : List (List ℕ)) (branches : List Branch) → with_leads legs branches
      ≡ joined (leads_from legs ([] ∷ []) branches) legs
  pub no_leg : (lead : List ℕ) (leads : List (List ℕ)) → joined (lead ∷ leads) [] ≡ []
  pub no_lead : (legs : List (List ℕ)) → joined [] legs ≡ []

pub record LeadsAreGiven : Type 0 where
  pub beginnings : BeginningsAreGiven
  pub trunks : TrunksAreGiven
  pub joins : JoinsAreGiven
