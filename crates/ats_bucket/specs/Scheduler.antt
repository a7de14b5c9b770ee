use Rattle.std.specs.Prelude.{ℕ, ◌+◌, ◌*◌, ◌≤◌, max, ℤ, pos, neg_ℤ, ◌+ℤ◌, ◌-ℤ◌, ◌≤ℤ◌, int_lt, if◌then◌else◌}
use Rattle.ats_num.specs.declared.time.TheConstants.{PS_PER_SECOND, END}
use Rattle.ats_num.specs.declared.rate.TheConstants.{MAX_BURST_BITS}
use Rattle.ats_num.specs.Rate.{IsRate}
use Rattle.ats_num.specs.Division.{ceiling}
use Rattle.ats_bucket.specs.Integers.{nonnegative}

-- what a scheduler keeps: a committed rate in bits per second, a burst in bits, and the bucket-empty time in
-- picoseconds, multiplied by the rate
pub record Bucket : Type 0 where
  pub rate : ℕ
  pub burst : ℕ
  pub empty : ℤ

-- the bucket-empty time of a bucket that is full at time 0
abbrev pub first_empty : ℕ → ℤ
first_empty burst = neg_ℤ (pos (PS_PER_SECOND * burst))

-- when a bucket that was empty at this time holds so many bits; both times multiplied by the rate. For a frame's bits
-- it is the scheduler eligibility time, for the burst the bucket-full time
abbrev pub holds_at : ℤ → ℕ → ℤ
holds_at empty bits = empty +ℤ pos (PS_PER_SECOND * bits)

-- the eligibility time: the least time at which the frame has arrived, that is not before the group eligibility time,
-- and at which the bucket holds the frame's bits
pub record IsEligibility (rate : ℕ) (empty : ℤ) (group arrival bits eligible : ℕ) : Type 0 where
  pub arrived : arrival ≤ eligible
  pub after_group : group ≤ eligible
  pub bucket : holds_at empty bits ≤ℤ pos (eligible * rate)
  pub least : (k : ℕ) → arrival ≤ k → group ≤ k → holds_at empty bits ≤ℤ pos (k * rate) → eligible ≤ k

-- that time, computed
abbrev pub eligibility_time : ℕ → ℤ → ℕ → ℕ → ℕ → ℕ
eligibility_time rate empty group arrival bits =
    max (max arrival group) (ceiling (nonnegative (holds_at empty bits)) rate)

-- the bucket-empty time once a frame of so many bits was accepted with this eligibility time: where the bucket was full
-- before, what overflowed is not saved
abbrev pub empty_after : ℕ → ℕ → ℤ → ℕ → ℕ → ℤ
empty_after rate burst empty eligible bits =
    if int_lt (pos (eligible * rate)) (holds_at empty burst)
    then holds_at empty bits
    else holds_at empty bits +ℤ pos (eligible * rate) -ℤ holds_at empty burst

-- a rate, a burst and a bucket-full time, multiplied by the rate, within their ranges
pub record IsWithin (rate burst full : ℕ) : Type 0 where
  pub committed : IsRate rate
  pub burst_bits : burst ≤ MAX_BURST_BITS
  pub time : full ≤ END * rate + PS_PER_SECOND * burst
