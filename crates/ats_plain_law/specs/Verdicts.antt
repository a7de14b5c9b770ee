use Rattle.std.specs.Prelude.{◌≡◌, ◌↔◌, ℕ, ◌+◌, ◌*◌, ◌<◌, ◌≤◌, ◌&&◌, nat_le, max, ℤ, pos, neg_ℤ, ◌+ℤ◌, ◌-ℤ◌, ◌≤ℤ◌}
use Rattle.std.specs.Prelude.{int_lt, Option, if◌then◌else◌}
use Rattle.ats_num.specs.Wire.{bits_of}
use Rattle.ats_num.specs.Division.{ceiling}
use Rattle.ats_streams.specs.Traffic.{is_declared_size}
use Rattle.ats_streams.specs.declared.traffic.Declared.{Declared}
use Rattle.ats_bucket.specs.Integers.{nonnegative}
use Rattle.ats_bucket.specs.Scheduler.{IsEligibility, eligibility_time, empty_after, first_empty, holds_at}
use Rattle.ats_group.specs.Group.{verdict_by, verdict_on}
use Rattle.ats_group.specs.declared.verdict.Verdict.TheVariants.{Eligible, Late, Size}
use Rattle.ats_lrq.specs.Fold as lrq
use Rattle.ats_lrq.specs.Spacing as spacing
use Rattle.ats_lrq.specs.declared.last_frame.LastFrame.{LastFrame}

-- a frame that would be eligible within the latest time is, and one that would be later, be it by a picosecond, is
-- late; within 1000 ps for each nanosecond of residence from its arrival on, by either regulator; and a frame of
-- another size than is declared is refused for it
pub record JudgingIsPlain : Type 0 where
  pub in_time : (latest at : ℕ) → at ≤ latest → verdict_by latest at ≡ Eligible (record { 0 = at })
  pub late : (latest at : ℕ) → latest < at → verdict_by latest at ≡ Late (record { 0 = at })
  pub sizes : (declared : Declared) (octets : ℕ) → is_declared_size declared octets
      ≡ (nat_le declared.min_octets octets && nat_le octets declared.max_octets)
  pub on : (declared : Declared) (residence time : ℕ) (empty : ℤ) (arrival octets : ℕ)
      → verdict_on declared residence time empty arrival octets
      ≡ (if is_declared_size declared octets
      then verdict_by (arrival + 1000 * residence)
      (eligibility_time declared.rate empty time arrival (bits_of octets))
      else Size)
  pub lrq : (declared : Declared) (residence time : ℕ) (last : Option LastFrame) (arrival octets : ℕ)
      → lrq.verdict_on declared residence time last arrival octets
      ≡ (if is_declared_size declared octets
      then verdict_by (arrival + 1000 * residence) (spacing.eligibility_time declared.rate last time arrival)
      else Size)

-- a bucket is full at time 0; it holds so many bits 10^12 ps times them later, by its rate; a frame is eligible at the
-- least time at which it is there, its group has got so far and the bucket holds its bits; and what overflowed while
-- the bucket was full is not saved
pub record BucketsArePlain : Type 0 where
  pub first : (burst : ℕ) → first_empty burst ≡ neg_ℤ (pos (1000000000000 * burst))
  pub holds : (empty : ℤ) (bits : ℕ) → holds_at empty bits ≡ empty +ℤ pos (1000000000000 * bits)
  pub eligible : (rate : ℕ) (empty : ℤ) (group arrival bits at : ℕ) → IsEligibility rate empty group arrival bits at
      ↔ ((arrival ≤ at) × (group ≤ at) × (holds_at empty bits ≤ℤ pos (at * rate))
      × ((k : ℕ) → arrival ≤ k → group ≤ k → holds_at empty bits ≤ℤ pos (k * rate) → at ≤ k))
  pub computed : (rate : ℕ) (empty : ℤ) (group arrival bits : ℕ) → eligibility_time rate empty group arrival bits
      ≡ max (max arrival group) (ceiling (nonnegative (holds_at empty bits)) rate)
  pub after : (rate burst : ℕ) (empty : ℤ) (at bits : ℕ) → empty_after rate burst empty at bits
      ≡ (if int_lt (pos (at * rate)) (holds_at empty burst)
      then holds_at empty bits
      else holds_at empty bits +ℤ pos (at * rate) -ℤ holds_at empty burst)

pub record VerdictsArePlain : Type 0 where
  pub judging : JudgingIsPlain
  pub buckets : BucketsArePlain
