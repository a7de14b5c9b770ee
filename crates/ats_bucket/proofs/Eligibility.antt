use Rattle.std.proofs.Common.{◌≡◌, ℕ, ◌+◌, ◌-◌, ◌*◌, ◌≤◌, max, arith}
use Rattle.std.specs.Prelude.{ℤ, pos, negsuc, ◌-ℤ◌, ◌≤ℤ◌}
use Rattle.std.proofs.lemmas.Int.{ints}
use Rattle.std.proofs.Math.Nat.{mul-le-mul_right}
use Rattle.ats_num.specs.Division.{IsCeiling, ceiling}
use Rattle.ats_num.specs.declared.time.TheConstants.{PS_PER_SECOND}
use Rattle.ats_bucket.specs.Integers.{nonnegative, nonnegative-is}
use Rattle.ats_bucket.specs.Scheduler.{holds_at, IsEligibility, eligibility_time}
use Rattle.ats_num.proofs.Ceiling.{ceiling-is, ceiling-only}

-- a number reaches an integer where it reaches its part from 0 on
pub up_to_nonnegative : (z : ℤ) (n : ℕ) → nonnegative z ≤ n → z ≤ℤ pos n
up_to_nonnegative (pos a) n h = omega (arith, ints)
up_to_nonnegative (negsuc a) n h = omega (arith, ints)

pub from_nonnegative : (z : ℤ) (n : ℕ) → z ≤ℤ pos n → nonnegative z ≤ n
from_nonnegative (pos a) n h = omega (arith, ints)
from_nonnegative (negsuc a) n h = omega (arith, ints)

-- a later time reaches too
reached : (n rate q other : ℕ) → IsCeiling n rate q → n ≤ max other q * rate
reached n rate q other c =
    let q_first : q ≤ max other q = omega arith in
    omega (arith, mul-le-mul_right rate q_first, c.reaches)

-- the computed eligibility time is the least
pub eligibility_time-is : (rate : ℕ) (empty : ℤ) (group arrival bits : ℕ) → 1 ≤ rate
    → IsEligibility rate empty group arrival bits (eligibility_time rate empty group arrival bits)
eligibility_time-is rate empty group arrival bits h =
    let z : ℤ = holds_at empty bits in
    let c : IsCeiling (nonnegative z) rate (ceiling (nonnegative z) rate) = ceiling-is (nonnegative z) rate h in
    record {
      arrived = omega arith;
      after_group = omega arith;
      bucket = up_to_nonnegative z (eligibility_time rate empty group arrival bits * rate)
          (reached (nonnegative z) rate (ceiling (nonnegative z) rate) (max arrival group) c);
      least = λ k a g b.
          (let q : ceiling (nonnegative z) rate ≤ k = c.least k (from_nonnegative z (k * rate) b) in omega arith);
    }

-- no other time is the least
pub eligibility_time-only : (rate : ℕ) (empty : ℤ) (group arrival bits eligible : ℕ) → 1 ≤ rate
    → IsEligibility rate empty group arrival bits eligible → eligible ≡ eligibility_time rate empty group arrival bits
eligibility_time-only rate empty group arrival bits eligible h e =
    let t = eligibility_time-is rate empty group arrival bits h in
    let low : eligible ≤ eligibility_time rate empty group arrival bits = e.least _ t.arrived t.after_group t.bucket in
    let high : eligibility_time rate empty group arrival bits ≤ eligible =
    t.least eligible e.arrived e.after_group e.bucket in
    omega arith

-- the quotient of a bucket-full time is that of the bucket-empty time
pub filled-is : (rate burst full bits filled : ℕ) (empty : ℤ)
    → 1 ≤ rate → empty ≡ pos full -ℤ pos (PS_PER_SECOND * burst)
    → IsCeiling (full + PS_PER_SECOND * bits - PS_PER_SECOND * burst) rate filled
    → filled ≡ ceiling (nonnegative (holds_at empty bits)) rate
filled-is rate burst full bits filled empty h e c =
    let n = nonnegative-is (holds_at empty bits) (full + PS_PER_SECOND * bits) (PS_PER_SECOND * burst)
    (omega (arith, ints)) in
    rw n (ceiling-only _ rate filled h c)

-- where the bucket is full by the time at which a frame may go otherwise, that is the eligibility time
pub soonest-is : (rate burst full group arrival bits : ℕ) (empty : ℤ)
    → 1 ≤ rate → empty ≡ pos full -ℤ pos (PS_PER_SECOND * burst)
    → full + PS_PER_SECOND * bits - PS_PER_SECOND * burst ≤ max arrival group * rate
    → max arrival group ≡ eligibility_time rate empty group arrival bits
soonest-is rate burst full group arrival bits empty h e by_then =
    let z : ℤ = holds_at empty bits in
    let n = nonnegative-is z (full + PS_PER_SECOND * bits) (PS_PER_SECOND * burst) (omega (arith, ints)) in
    let q : ceiling (nonnegative z) rate ≤ max arrival group =
    (ceiling-is (nonnegative z) rate h).least (max arrival group) (rw n by_then) in
    omega arith
