use Rattle.std.specs.Prelude.{ℕ, ◌+◌, ◌-◌, ◌*◌, Bool, nat_lt, if◌then◌else◌, Option, Some, None}
use Rattle.ats_num.specs.declared.time.TheConstants.{PS_PER_SECOND}
use Rattle.ats_conform.specs.declared.start.Start.{Start}

-- from the earlier start to the next the rate gives more bits than were sent
abbrev pub is_worse : ℕ → Start → Start → Bool
is_worse rate next earlier =
    nat_lt (PS_PER_SECOND * (next.before - earlier.before)) (rate * (next.at.0 - earlier.at.0))

-- the worse of two starts, and of two that are alike the first
abbrev pub worse_of : ℕ → Option Start → Start → Start
worse_of rate None next = next
worse_of rate (Some start) next = if is_worse rate next start then next else start

-- the bits from a start on, of so many in all, are more than the rate gives until this time and the burst
abbrev pub is_over : ℕ → ℕ → Start → ℕ → ℕ → Bool
is_over rate burst start at sent =
    nat_lt (rate * (at - start.at.0) + PS_PER_SECOND * burst) (PS_PER_SECOND * (sent - start.before))
