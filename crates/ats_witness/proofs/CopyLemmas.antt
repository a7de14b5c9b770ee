-- Lists whose elements are one and the same.
use Rattle.std.proofs.Common.{◌≡◌, ℕ, zero, suc, ◌-◌, ◌<◌, ◌≤◌, Bool, true, false, cond, List, [], ◌∷◌}
use Rattle.std.proofs.Common.{map, filter, drop, length, replicate, sum_by, refl, sym, ap, subst, ◌∙◌, arith}
use Rattle.std.specs.Prelude.{IsPermutation, slice_range}
use Rattle.std.specs.List.{All}
use Rattle.std.specs.List.Sorted.{IsNonDecreasing}
use Rattle.std.proofs.lemmas.List.{get_or-replicate, length-replicate}
use Rattle.std.proofs.lemmas.List.Elements.{All-filter, All-head, All-replicate, All-tail, filter_passes}
use Rattle.std.proofs.lemmas.List.Sorted.{All-permutation, sum_by-IsPermutation}
use Rattle.std.proofs.lemmas.List.Sums.{length-filter, sum_by-take-drop, sum_by-take-le}
use Rattle.ats_facts.proofs.Lists.{All-from_filter}

-- such a list is so many copies
copies : {X : Type 0} (x : X) (xs : List X) → All (λ (y : X). y ≡ x) xs → xs ≡ replicate (length xs) x
copies x [] all = refl
copies {X} x (y ∷ ys) all =
    let head : y ≡ x = All-head (λ (z : X). z ≡ x) y ys all in
    let tail : ys ≡ replicate (length ys) x = copies x ys (All-tail (λ (z : X). z ≡ x) y ys all) in
    ap (λ (z : X). z ∷ ys) head ∙ ap (λ (l : List X). x ∷ l) tail

pub map-copies : {X Y : Type 0} (f : X → Y) (n : ℕ) (x : X) → map f (replicate n x) ≡ replicate n (f x)
map-copies f zero x = refl
map-copies {X} {Y} f (suc n) x = ap (λ (l : List Y). f x ∷ l) (map-copies f n x)

-- copies pass a test all or not at all
pub filter-copies : {X : Type 0} (p : X → Bool) (n : ℕ) (x : X)
    → filter p (replicate n x) ≡ cond (p x) (replicate n x) []
filter-copies {X} p zero x = by (p x)
  where
    by : (b : Bool) → let none : List X = [] in none ≡ cond b none none
    by true = refl
    by false = refl
filter-copies {X} p (suc n) x = by (p x) (filter-copies p n x)
  where
    by : (b : Bool) → filter p (replicate n x) ≡ cond b (replicate n x) []
        → cond b (x ∷ filter p (replicate n x)) (filter p (replicate n x)) ≡ cond b (x ∷ replicate n x) []
    by true rest = ap (λ (l : List X). x ∷ l) rest
    by false rest = rest

-- where what passes a test is copies, it is so in any order
pub copies_permuted : {X : Type 0} (p : X → Bool) (n : ℕ) (x : X) (xs ys : List X) → IsPermutation xs ys
    → filter p xs ≡ replicate n x → filter p ys ≡ replicate n x
copies_permuted {X} p n x xs ys moved is =
    let Same : X → Type 0 = λ (y : X). y ≡ x in
    let mine : All Same (filter p xs) = subst (All Same) (sym is) (All-replicate Same n x refl) in
    let each : All (λ (y : X). p y ≡ true → y ≡ x) ys =
    All-permutation (λ (y : X). p y ≡ true → y ≡ x) xs ys moved (All-from_filter p Same xs mine) in
    let all : All Same (filter p ys) = λ k d h.
    All-filter p (λ (y : X). p y ≡ true → y ≡ x) ys each k d h (filter_passes p ys k d h) in
    let many : length (filter p ys) ≡ n =
    length-filter p ys ∙ sum_by-IsPermutation (λ (y : X). cond (p y) 1 0) xs ys moved ∙ sym (length-filter p xs)
    ∙ ap (λ (l : List X). length l) is ∙ length-replicate n x in
    copies x (filter p ys) all ∙ ap (λ (k : ℕ). replicate k x) many

-- copies of a number do not fall
pub copies_level : (n x : ℕ) → IsNonDecreasing (replicate n x)
copies_level n x i j d le within =
    let inside : j < n = omega (arith, within, length-replicate n x) in
    omega (arith, get_or-replicate n i x d (omega (arith, le, inside)), get_or-replicate n j x d inside)

-- a part of a list sums up to no more than the list
pub sum_by-slice-le : {X : Type 0} (f : X → ℕ) (xs : List X) (i j : ℕ) → sum_by f (slice_range xs i j) ≤ sum_by f xs
sum_by-slice-le f xs i j =
    omega (arith, sum_by-take-le f (drop i xs) (j - i), sum_by-take-drop f xs i)
