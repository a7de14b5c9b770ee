use Rattle.std.proofs.Common.{◌≡◌, ℕ, ◌+◌, ◌≤◌, Bool, true, false, cond, List, [], ◌∷◌, filter, sum_by, refl, arith}
use Rattle.std.specs.List.{All, flat_map}
use Rattle.std.proofs.lemmas.List.Elements.{All-head, All-tail}
use Rattle.std.proofs.lemmas.List.Sums.{sum_by-cons, sum_by-append, sum_by-le}

-- a sum of larger terms, where they are larger at the elements of the list
pub sum_by-le-all : {X : Type 0} (f g : X → ℕ) (xs : List X) → All (λ (x : X). f x ≤ g x) xs → sum_by f xs ≤ sum_by g xs
sum_by-le-all f g [] all = omega arith
sum_by-le-all {X} f g (x ∷ xs) all =
    let first = All-head (λ (x : X). f x ≤ g x) x xs all in
    let rest = sum_by-le-all f g xs (All-tail (λ (x : X). f x ≤ g x) x xs all) in
    omega (arith, sum_by-cons f x xs, sum_by-cons g x xs, first, rest)

-- a sum of nothing
pub sum_by-none : {X : Type 0} (f : X → ℕ) (xs : List X) → All (λ (x : X). f x ≤ 0) xs → sum_by f xs ≡ 0
sum_by-none f xs none = omega (arith, sum_by-le f 0 xs none)

-- a sum of sums
pub sum_by-both : {X : Type 0} (f g h : X → ℕ) (xs : List X) → ((x : X) → h x ≡ f x + g x)
    → sum_by h xs ≡ sum_by f xs + sum_by g xs
sum_by-both f g h [] each = omega arith
sum_by-both f g h (x ∷ xs) each =
    let rest = sum_by-both f g h xs each in
    omega (arith, sum_by-cons f x xs, sum_by-cons g x xs, sum_by-cons h x xs, each x)

-- of the same terms
pub sum_by-same : {X : Type 0} (f g : X → ℕ) (xs : List X) → ((x : X) → f x ≡ g x) → sum_by f xs ≡ sum_by g xs
sum_by-same f g [] each = refl
sum_by-same f g (x ∷ xs) each =
    let rest = sum_by-same f g xs each in
    omega (arith, sum_by-cons f x xs, sum_by-cons g x xs, each x)

chosen-cons : {X : Type 0} (b : Bool) (f : X → ℕ) (x : X) (xs : List X)
    → sum_by f (cond b (x ∷ xs) xs) ≡ cond b (f x) 0 + sum_by f xs
chosen-cons true f x xs = sum_by-cons f x xs
chosen-cons false f x xs = omega arith

-- a sum over the elements that pass a test is one over all
pub sum_by-filter : {X : Type 0} (f : X → ℕ) (test : X → Bool) (xs : List X)
    → sum_by f (filter test xs) ≡ sum_by (λ (x : X). cond (test x) (f x) 0) xs
sum_by-filter f test [] = refl
sum_by-filter {X} f test (x ∷ xs) =
    let chosen = chosen-cons (test x) f x (filter test xs) in
    let rest = sum_by-filter f test xs in
    let all = sum_by-cons (λ (x : X). cond (test x) (f x) 0) x xs in
    omega (arith, chosen, rest, all)

-- a sum over the lists that a function makes
pub sum_by-flat_map : {X Y : Type 0} (f : Y → ℕ) (g : X → List Y) (xs : List X)
    → sum_by f (flat_map g xs) ≡ sum_by (λ (x : X). sum_by f (g x)) xs
sum_by-flat_map f g [] = refl
sum_by-flat_map {X} f g (x ∷ xs) =
    let both = sum_by-append f (g x) (flat_map g xs) in
    let rest = sum_by-flat_map f g xs in
    let all = sum_by-cons (λ (x : X). sum_by f (g x)) x xs in
    omega (arith, both, rest, all)
