use Rattle.std.proofs.Common.{◌≡◌, ℕ, true, List, arith}
use Rattle.std.specs.Str.{bytes_eq}
use Rattle.std.proofs.lemmas.Slice.Eq.{bytes_eq-Decides}

-- bytes that pass the test of equality are the same
pub bytes_eq-true : (xs ys : List ℕ) → bytes_eq xs ys ≡ true → xs ≡ ys
bytes_eq-true xs ys h = grind (arith, bytes_eq-Decides xs ys)

-- and bytes pass it with themselves
pub bytes_eq-same : (xs : List ℕ) → bytes_eq xs xs ≡ true
bytes_eq-same xs = grind (arith, bytes_eq-Decides xs xs)
