use Rattle.std.specs.Prelude.{◌≡◌, ◌≢◌, ◌⊎◌, ℕ, ◌+◌, ◌<◌, List, length, slice_index_or}
use Rattle.ats_streams.specs.Branches.{first_from, no_branch}
use Rattle.ats_streams.specs.declared.branch.Branch.{Branch}

-- at this place the ports of a branch begin, and at that one is the port of the hop where it begins, which leaves the
-- same node
pub record BeginsAt (branches : List Branch) (place from : ℕ) : Type 0 where
  pub branch : ℕ
  pub exists : branch < length branches
  pub begins : (slice_index_or branches branch no_branch).first ≡ place
  pub is : from ≡ first_from 0 branches (slice_index_or branches branch no_branch).leg
      + (slice_index_or branches branch no_branch).hop

-- at this place the ports of no branch begin, and that one is the same place
pub record GoesOn (branches : List Branch) (place from : ℕ) : Type 0 where
  pub elsewhere : (n : ℕ) → n < length branches → (slice_index_or branches n no_branch).first ≢ place
  pub is : from ≡ place

-- the place at which a leg goes on from the node that the port at a place leaves, among ports with these branches; it
-- is the first place where this node is the talker
abbrev pub IsFrom : List Branch → ℕ → ℕ → Type 0
IsFrom branches place from = BeginsAt branches place from ⊎ GoesOn branches place from

-- the place of the port before that at a place: the one in front of the place at which a leg goes on from there
abbrev pub IsBefore : List Branch → ℕ → ℕ → Type 0
IsBefore branches place before = IsFrom branches place (before + 1)
