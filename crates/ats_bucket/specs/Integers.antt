use Rattle.std.specs.Prelude.{◌≡◌, ℕ, ◌-◌, ℤ, pos, negsuc, ◌-ℤ◌}
use Rattle.std.proofs.Common.{arith}
use Rattle.std.proofs.lemmas.Int.{ints}

-- a signed number, or 0 in place of a negative one
abbrev pub nonnegative : ℤ → ℕ
nonnegative (pos n) = n
nonnegative (negsuc n) = 0

-- a difference, cut off at 0
pub nonnegative-is : (z : ℤ) (a b : ℕ) → z ≡ pos a -ℤ pos b → nonnegative z ≡ a - b
nonnegative-is (pos n) a b e = omega (arith, ints)
nonnegative-is (negsuc n) a b e = omega (arith, ints)
