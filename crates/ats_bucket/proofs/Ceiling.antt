use Rattle.std.proofs.Common.{◌≡◌, ℕ, ◌+◌, ◌-◌, ◌*◌, ◌≤◌, arith}
use Rattle.std.proofs.Math.Nat.{mul-le-mul_left}
use Rattle.ats_num.specs.Division.{IsCeiling}

-- a quotient is bounded where the divided number is
pub ceiling-bounded : (full saved extra last rate n q : ℕ) → 1 ≤ rate → full ≤ last * rate + saved
    → n ≡ full + extra - saved → IsCeiling n rate q → q ≤ last + extra
ceiling-bounded full saved extra last rate n q h f e c =
    c.least (last + extra) (omega (arith, mul-le-mul_left extra h))
