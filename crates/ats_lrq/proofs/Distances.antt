use Rattle.std.proofs.Common.{ℕ, ◌-◌, ◌*◌, ◌≤◌, mul-le-mul_left, mul-le-mul_right, arith}
use Rattle.std.specs.Prelude.{Option, Some, None}
use Rattle.ats_num.specs.declared.time.TheConstants.{PS_PER_SECOND}
use Rattle.ats_num.specs.Division.{IsCeiling, ceiling}
use Rattle.ats_num.proofs.Ceiling.{ceiling-is}
use Rattle.ats_lrq.specs.declared.last_frame.LastFrame.{LastFrame}
use Rattle.ats_lrq.specs.Spacing.{IsSpacedFrom, free_from, eligibility_time}
use Rattle.ats_lrq.specs.Laws.{EligibilityTimeIsLeast}

-- from the first free time on a frame keeps its distance
pub spaced-from : (rate : ℕ) (last : Option LastFrame) (at : ℕ) → 1 ≤ rate → free_from rate last ≤ at
    → IsSpacedFrom rate last at
spaced-from rate None at r h = tt
spaced-from rate (Some last) at r h =
    let c = ceiling-is (PS_PER_SECOND * last.bits) rate r in
    let q : ℕ = ceiling (PS_PER_SECOND * last.bits) rate in
    let wait : q ≤ at - last.eligible.0 = omega arith in
    record {
      later = omega arith;
      given = omega (arith, c.reaches, mul-le-mul_right rate wait);
    }

-- and before it does not
pub free-by : (rate : ℕ) (last : Option LastFrame) (at : ℕ) → 1 ≤ rate → IsSpacedFrom rate last at
    → free_from rate last ≤ at
free-by rate None at r s = omega arith
free-by rate (Some last) at r s =
    let c = ceiling-is (PS_PER_SECOND * last.bits) rate r in
    let wait = c.least (at - last.eligible.0) (let g = s.given in omega arith) in
    let later = s.later in
    omega arith

pub time_least : EligibilityTimeIsLeast
time_least rate last group arrival r = record {
  arrived = omega arith;
  after_group = omega arith;
  spaced = spaced-from rate last (eligibility_time rate last group arrival) r (omega arith);
  least = λ k a g s. (let f = free-by rate last k r s in omega arith);
}

-- a quotient at a rate of one or more is no greater than the number
pub quotient-bounded : (n rate q : ℕ) → 1 ≤ rate → IsCeiling n rate q → q ≤ n
quotient-bounded n rate q r c = c.least n (omega (arith, mul-le-mul_left n r))
