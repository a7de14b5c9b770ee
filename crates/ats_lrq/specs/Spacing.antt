use Rattle.std.specs.Prelude.{ℕ, ◌+◌, ◌-◌, ◌*◌, ◌≤◌, max, Option, Some, None}
use Rattle.ats_num.specs.declared.time.TheConstants.{PS_PER_SECOND}
use Rattle.ats_num.specs.Division.{ceiling}
use Rattle.ats_lrq.specs.declared.last_frame.LastFrame.{LastFrame}

-- a frame at one time keeps its distance from one of so many bits at an earlier time: in between the rate, in bits per
-- second, gives the earlier one's bits
pub record IsSpaced (rate bits since at : ℕ) : Type 0 where
  pub later : since ≤ at
  pub given : PS_PER_SECOND * bits ≤ rate * (at - since)

-- a frame that is eligible at this time keeps its distance from the one that was accepted last, where there is one
abbrev pub IsSpacedFrom : ℕ → Option LastFrame → ℕ → Type 0
IsSpacedFrom rate None eligible = Unit {0}
IsSpacedFrom rate (Some last) eligible = IsSpaced rate last.bits last.eligible.0 eligible

-- the eligibility time: the least time at which the frame has arrived, that is not before the group eligibility time,
-- and at which it keeps its distance from the member's last accepted frame
pub record IsEligibility (rate : ℕ) (last : Option LastFrame) (group arrival eligible : ℕ) : Type 0 where
  pub arrived : arrival ≤ eligible
  pub after_group : group ≤ eligible
  pub spaced : IsSpacedFrom rate last eligible
  pub least : (k : ℕ) → arrival ≤ k → group ≤ k → IsSpacedFrom rate last k → eligible ≤ k

-- the first time at that distance: behind the last accepted frame by the quotient of its length and the rate
abbrev pub free_from : ℕ → Option LastFrame → ℕ
free_from rate None = 0
free_from rate (Some last) = last.eligible.0 + ceiling (PS_PER_SECOND * last.bits) rate

-- the eligibility time, computed
abbrev pub eligibility_time : ℕ → Option LastFrame → ℕ → ℕ → ℕ
eligibility_time rate last group arrival = max (max arrival group) (free_from rate last)
