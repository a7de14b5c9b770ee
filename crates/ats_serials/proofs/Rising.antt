use Rattle.std.proofs.Common.{◌≡◌, ℕ, ◌<◌, ◌≤◌, List, length, get_or, Err, ap, ◌⊎◌, inl, inr, arith}
use Rattle.std.specs.Ordering.{nat_cmp}
use Rattle.std.specs.List.Sorted.{IsBinarySearchResult}
use Rattle.std.proofs.lemmas.Bool.{cases_order, cases_lt}
use Rattle.std.proofs.lemmas.List.Sorted.{searched}
use Rattle.ats_serials.specs.Serials.{AreRising}

-- numbers that rise do so from each place to each later one
pub rising-le : (serials : List ℕ) → AreRising serials → (i j : ℕ) → i ≤ j → j < length serials
    → get_or serials i 0 ≤ get_or serials j 0
rising-le serials rising i j below within = by (cases_order i j)
  where
    by : (i ≡ j) ⊎ ((i < j) ⊎ (j < i)) → get_or serials i 0 ≤ get_or serials j 0
    by (inl e) = let same : get_or serials i 0 ≡ get_or serials j 0 = ap (λ (n : ℕ). get_or serials n 0) e in
        omega (arith, same)
    by (inr (inl before)) =
        let less : get_or serials i 0 < get_or serials j 0 = rising i j 0 before within in omega (arith, less)
    by (inr (inr after)) = absurd (omega (arith, below, after))

-- a search among them fails only where the number stands nowhere
pub unsearched : (serials : List ℕ) (serial i n : ℕ) → AreRising serials
    → IsBinarySearchResult (λ y. nat_cmp y serial) serials (Err i) → n < length serials
    → get_or serials n 0 ≡ serial → ⊥
unsearched serials serial i n rising result within stands = by (cases_lt n i)
  where
    sides : (i ≤ length serials) × ((k : ℕ) → k < i → get_or serials k 0 < serial)
        × ((k : ℕ) → i ≤ k → k < length serials → serial < get_or serials k 0)
    sides = searched serials serial (Err i) result (rising-le serials rising)

    by : (n < i) ⊎ (i ≤ n) → ⊥
    by (inl below) = let less : get_or serials n 0 < serial = sides.1 n below in omega (arith, less, stands)
    by (inr above) = let more : serial < get_or serials n 0 = sides.2 n above within in omega (arith, more, stands)
