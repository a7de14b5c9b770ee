use Rattle.std.proofs.Common.{◌≡◌, ℕ, suc, ◌<◌, List, ◌∷◌, length, get_or, All, subst, sym, ap, ◌∙◌, refl}
use Rattle.std.proofs.Common.{inl, inr, arith}
use Rattle.std.specs.Prelude.{AllPairs, IsPermutation, ◌≢◌, ◌==◌, swap, if◌then◌else◌}
use Rattle.std.proofs.lemmas.Bool.{cases_order, cases_eq, eq-eqb, ne_eqb, cond-true, cond-false}
use Rattle.std.proofs.lemmas.Bool.Decides.{nat_tests}
use Rattle.std.proofs.lemmas.List.Edits.{swapped_from_swap, length-swap}
use Rattle.std.proofs.lemmas.List.Kept.{AllPairs-cons}
use Rattle.std.proofs.lemmas.List.Sorted.{IsPermutation-keeps}

-- the relation holds of the elements at any two different places
abbrev OfAnyTwo : {X : Type 0} → (X → X → Type 0) → List X → Type 0
OfAnyTwo {X} R xs = (i j : ℕ) (d : X) → i ≢ j → i < length xs → j < length xs → R (get_or xs i d) (get_or xs j d)

-- where the element at a place stood before a swap
abbrev before_swap : ℕ → ℕ → ℕ → ℕ
before_swap a b k = if k == a then b else (if k == b then a else k)

before_swap-within : (n a b k : ℕ) → a < n → b < n → k < n → before_swap a b k < n
before_swap-within n a b k ha hb hk = grind (arith, nat_tests)

before_swap-differs : (a b i j : ℕ) → i ≢ j → before_swap a b i ≢ before_swap a b j
before_swap-differs a b i j n e = grind (arith, nat_tests)

get_or-swap : {X : Type 0} (xs : List X) (a b k : ℕ) (d : X) → a < length xs → b < length xs
    → get_or (swap xs a b) k d ≡ get_or xs (before_swap a b k) d
get_or-swap {X} xs a b k d ha hb =
    let s = swapped_from_swap xs (swap xs a b) a b d ha hb refl in
    let Goal : Type 0 = get_or (swap xs a b) k d ≡ get_or xs (before_swap a b k) d in
    let old : ℕ → X = λ (m : ℕ). get_or xs m d in
    let new : ℕ → X = λ (m : ℕ). get_or (swap xs a b) m d in
    elim (cases_eq k a) as (λ _. Goal) [
      | inl e ↦ ap new e ∙ s.0 ∙ ap old (sym (cond-true (k == a) b (if k == b then a else k) (eq-eqb k a e)))
      | inr n ↦ elim (cases_eq k b) as (λ _. Goal) [
        | inl e ↦ ap new e ∙ s.1
            ∙ ap old (sym (cond-false (k == a) b (if k == b then a else k) (ne_eqb k a n)
            ∙ cond-true (k == b) a k (eq-eqb k b e)))
        | inr m ↦ s.2 k n m
            ∙ ap old (sym (cond-false (k == a) b (if k == b then a else k) (ne_eqb k a n)
            ∙ cond-false (k == b) a k (ne_eqb k b m)))
      ]
    ]

within : {X : Type 0} (xs : List X) (a b k : ℕ) → k < length (swap xs a b) → k < length xs
within xs a b k h = omega (arith, length-swap xs a b)

of_any_two-swap : {X : Type 0} (R : X → X → Type 0) (xs : List X) (a b : ℕ) → a < length xs → b < length xs
    → OfAnyTwo R xs → OfAnyTwo R (swap xs a b)
of_any_two-swap {X} R xs a b ha hb two i j d n hi hj =
    let p = before_swap a b i in
    let q = before_swap a b j in
    let First : X → Type 0 = λ (x : X). R x (get_or (swap xs a b) j d) in
    let Second : X → Type 0 = λ (y : X). R (get_or xs p d) y in
    subst First (sym (get_or-swap xs a b i d ha hb))
    (subst Second (sym (get_or-swap xs a b j d ha hb))
    (two p q d (before_swap-differs a b i j n)
    (before_swap-within (length xs) a b i ha hb (within xs a b i hi))
    (before_swap-within (length xs) a b j ha hb (within xs a b j hj))))

any_two_from_pairs : {X : Type 0} (R : X → X → Type 0) (xs : List X) → ((x y : X) → R x y → R y x) → AllPairs R xs
    → OfAnyTwo R xs
any_two_from_pairs R xs flip pairs i j d n hi hj =
    elim (cases_order i j) as (λ _. R (get_or xs i d) (get_or xs j d)) [
      | inl e ↦ absurd (n e)
      | inr r ↦ elim r as (λ _. R (get_or xs i d) (get_or xs j d)) [
        | inl before ↦ pairs i j d before hj
        | inr after ↦ flip (get_or xs j d) (get_or xs i d) (pairs j i d after hi)
      ]
    ]

-- a relation that goes both ways, of each two elements, survives a permutation
pub AllPairs-permutation : {X : Type 0} (R : X → X → Type 0) → ((x y : X) → R x y → R y x) → (xs ys : List X)
    → IsPermutation xs ys → AllPairs R xs → AllPairs R ys
AllPairs-permutation {X} R flip xs ys p pairs =
    let two : OfAnyTwo R ys =
    IsPermutation-keeps xs (OfAnyTwo R) (any_two_from_pairs R xs flip pairs)
    (λ l a b ha hb. of_any_two-swap R l a b ha hb) ys p in
    λ i j d before hj. two i j d (λ e. omega arith) (omega arith) hj

-- an item comes to a list
pub pairs_more : {X : Type 0} (R : X → X → Type 0) → ((x y : X) → R x y → R y x) → (x : X) (old new : List X)
    → IsPermutation (x ∷ old) new → All (R x) old → AllPairs R old → AllPairs R new
pairs_more R flip x old new moved first pairs =
    AllPairs-permutation R flip (x ∷ old) new moved (AllPairs-cons R x old first pairs)

-- an item leaves a list
pub pairs_less : {X : Type 0} (R : X → X → Type 0) → ((x y : X) → R x y → R y x) → (x : X) (old new : List X)
    → IsPermutation old (x ∷ new) → AllPairs R old → All (R x) new × AllPairs R new
pairs_less R flip x old new moved pairs =
    let all = AllPairs-permutation R flip old (x ∷ new) moved pairs in (
      λ k d h. all 0 (suc k) d (omega arith) (omega arith),
      λ i j d less h. all (suc i) (suc j) d (omega arith) (omega arith),
    )
