-- Two lists of the same things, in one strict order, are one list.
use Rattle.std.proofs.Common.{◌≡◌, ◌≢◌, ◌∙◌, ℕ, zero, suc, ◌<◌, List, [], ◌∷◌, get_or, refl, sym, ap, subst}
use Rattle.std.proofs.Common.{arith}
use Rattle.std.specs.List.{All, AllPairs, Contains}
use Rattle.std.specs.List.Sorted.{IsNonDecreasingBy}
use Rattle.ats_facts.proofs.Lists.{pairs_head, pairs_tail}

-- each goes before all later ones by this key
abbrev pub AreStrict : {X : Type 0} → (X → ℕ) → List X → Type 0
AreStrict key xs = AllPairs (λ x y. key x < key y) xs

pub strict_from : {X : Type 0} (key : X → ℕ) (xs : List X) → IsNonDecreasingBy key xs
    → AllPairs (λ x y. key x ≢ key y) xs → AreStrict key xs
strict_from key xs up apart i j d before within =
    let le = up i j d (omega arith) within in
    let ne = apart i j d before within in
    omega (arith, le, ne)

-- what is in a list, and is not its first, is in the rest
in_rest : {X : Type 0} (x z : X) (xs : List X) → Contains (x ∷ xs) z → (x ≡ z → ⊥) → Contains xs z
in_rest x z xs (zero, within, is) differs = absurd (differs is)
in_rest x z xs (suc k, within, is) differs = (k, omega arith, is)

later : {X : Type 0} (key : X → ℕ) (x z : X) (xs : List X) → AreStrict key (x ∷ xs) → Contains xs z → key x < key z
later key x z xs strict (k, within, is) =
    subst (λ y. key x < key y) is (pairs_head (λ a b. key a < key b) x xs strict k z within)

-- the first of both is one
same_first : {X : Type 0} (key : X → ℕ) (x y : X) (xs ys : List X) → AreStrict key (x ∷ xs) → AreStrict key (y ∷ ys)
    → Contains (y ∷ ys) x → Contains (x ∷ xs) y → x ≡ y
same_first key x y xs ys strict other (zero, within, is) back = sym is
same_first key x y xs ys strict other (suc k, within, is) (zero, inside, at) = at
same_first key x y xs ys strict other (suc k, within, is) (suc l, inside, at) =
    let a = later key y x ys other (k, omega arith, is) in
    let b = later key x y xs strict (l, omega arith, at) in
    absurd (omega (arith, a, b))

rest_in : {X : Type 0} (key : X → ℕ) (x y : X) (xs ys : List X) → AreStrict key (x ∷ xs) → x ≡ y
    → All (Contains (y ∷ ys)) (x ∷ xs) → All (Contains ys) xs
rest_in {X} key x y xs ys strict same each k d within =
    let z : X = get_or xs k d in
    let before = pairs_head (λ a b. key a < key b) x xs strict k d within in
    in_rest y z ys (each (suc k) d (omega arith))
    (λ e. let keys : key x ≡ key z = ap key (same ∙ e) in omega (arith, before, keys))

pub same_list : {X : Type 0} (key : X → ℕ) (xs ys : List X) → AreStrict key xs → AreStrict key ys
    → All (Contains ys) xs → All (Contains xs) ys → xs ≡ ys
same_list key [] [] strict other each back = refl
same_list key [] (y ∷ ys) strict other each back = absurd (let at = back 0 y (omega arith) in omega (arith, at.1))
same_list key (x ∷ xs) [] strict other each back = absurd (let at = each 0 x (omega arith) in omega (arith, at.1))
same_list {X} key (x ∷ xs) (y ∷ ys) strict other each back =
    let same : x ≡ y = same_first key x y xs ys strict other (each 0 x (omega arith)) (back 0 y (omega arith)) in
    ap (λ (z : X). z ∷ xs) same
    ∙ ap (λ (l : List X). y ∷ l) (same_list key xs ys (pairs_tail (λ a b. key a < key b) x xs strict)
    (pairs_tail (λ a b. key a < key b) y ys other) (rest_in key x y xs ys strict same each)
    (rest_in key y x ys xs other (sym same) back))
