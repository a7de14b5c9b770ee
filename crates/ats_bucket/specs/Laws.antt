use Rattle.std.specs.Prelude.{ℕ, ◌≤◌, ℤ}
use Rattle.ats_bucket.specs.Scheduler.{IsEligibility, eligibility_time}

-- the computed eligibility time is the least one
abbrev pub EligibilityTimeIsLeast : Type 0
EligibilityTimeIsLeast = (rate : ℕ) (empty : ℤ) (group arrival bits : ℕ) → 1 ≤ rate
    → IsEligibility rate empty group arrival bits (eligibility_time rate empty group arrival bits)
