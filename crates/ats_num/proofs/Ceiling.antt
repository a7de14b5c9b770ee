use Rattle.std.proofs.Common.{◌≡◌, ℕ, ◌+◌, ◌-◌, ◌*◌, ◌<◌, ◌≤◌, inl, inr, arith}
use Rattle.std.proofs.Math.Nat.{mul-le-mul_right, div-mul-le_self}
use Rattle.std.proofs.lemmas.Bool.{cases_lt}
use Rattle.ats_num.specs.Division.{IsCeiling, ceiling}

-- a greater number, taken d times, is at least d more
steps : (k q d : ℕ) → k < q → k * d + d ≤ q * d
steps k q d h = omega (arith, mul-le-mul_right d h)

not_below : (n d k : ℕ) → 1 ≤ d → n ≤ k * d → (k < ceiling n d) → ceiling n d ≤ k
not_below n d k h r b =
    let m = steps k (ceiling n d) d b in
    let below = div-mul-le_self (n + (d - 1)) d in
    absurd (omega arith)

-- the computed quotient is the least
pub ceiling-is : (n d : ℕ) → 1 ≤ d → IsCeiling n d (ceiling n d)
ceiling-is n d h = record {
  reaches = omega arith;
  least = λ k r. elim (cases_lt k (ceiling n d)) [ inl b ↦ not_below n d k h r b | inr b ↦ b ];
}

-- only one number is the least
pub ceiling-only : (n d q : ℕ) → 1 ≤ d → IsCeiling n d q → q ≡ ceiling n d
ceiling-only n d q h c =
    let r = ceiling-is n d h in
    let up : q ≤ ceiling n d = c.least (ceiling n d) r.reaches in
    let down : ceiling n d ≤ q = r.least q c.reaches in
    omega arith
