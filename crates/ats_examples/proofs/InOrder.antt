use Rattle.std.proofs.Common.{◌≡◌, ℕ, zero, suc, ◌<◌, ◌≤◌, List, [], ◌∷◌, map, refl, sym, ap, inl, inr, ◌⊎◌}
use Rattle.std.proofs.Common.{◌∙◌, arith, length}
use Rattle.std.specs.Prelude.{IsPermutation, Contains}
use Rattle.std.specs.List.Sorted.{IsNonDecreasing}
use Rattle.std.proofs.lemmas.List.Sorted.{IsPermutation-sym, length_permutation, Contains-permutation}

-- Three elements with different keys have one order.

-- the element is one of these
abbrev IsOneOf : {X : Type 0} → X → X → X → X → Type 0
IsOneOf u v w x = (u ≡ x) ⊎ ((v ≡ x) ⊎ (w ≡ x))

one_of : {X : Type 0} (u v w x : X) → Contains (u ∷ v ∷ w ∷ []) x → IsOneOf u v w x
one_of u v w x (zero, within, e) = inl e
one_of u v w x (suc zero, within, e) = inr (inl e)
one_of u v w x (suc (suc zero), within, e) = inr (inr e)
one_of u v w x (suc (suc (suc k)), within, e) = absurd (omega arith)

-- so is its key
of_keys : {X : Type 0} (key : X → ℕ) (u v w x : X) → IsOneOf u v w x → IsOneOf (key u) (key v) (key w) (key x)
of_keys key u v w x h = elim h [
  | inl e ↦ inl (ap key e)
  | inr more ↦ elim more [ inl e ↦ inr (inl (ap key e)) | inr e ↦ inr (inr (ap key e)) ]
]

-- one of three ascending numbers is no less than the first and no more than the last
no_less : (a b c n : ℕ) → a ≤ b → b ≤ c → IsOneOf a b c n → a ≤ n
no_less a b c n ab bc h = elim h [
  | inl e ↦ omega (arith, e)
  | inr more ↦ elim more [ inl e ↦ omega (arith, e) | inr e ↦ omega (arith, e) ]
]

no_more : (a b c n : ℕ) → a ≤ b → b ≤ c → IsOneOf a b c n → n ≤ c
no_more a b c n ab bc h = elim h [
  | inl e ↦ omega (arith, e)
  | inr more ↦ elim more [ inl e ↦ omega (arith, e) | inr e ↦ omega (arith, e) ]
]

-- and between the ends it is the middle one
is_middle : (a b c n : ℕ) → a < n → n < c → IsOneOf a b c n → b ≡ n
is_middle a b c n after before h = elim h [
  | inl e ↦ absurd (omega (arith, e))
  | inr more ↦ elim more [ inl e ↦ e | inr e ↦ absurd (omega (arith, e)) ]
]

-- an element with the key of one of them is that one
is_first : {X : Type 0} (key : X → ℕ) (a b c x : X) → key a < key b → key b < key c → key x ≡ key a
    → IsOneOf a b c x → x ≡ a
is_first key a b c x ab bc same h = elim h [
  | inl e ↦ sym e
  | inr more ↦ elim more [
    | inl e ↦ absurd (omega (arith, ap key e, same, ab, bc))
    | inr e ↦ absurd (omega (arith, ap key e, same, ab, bc))
  ]
]

is_second : {X : Type 0} (key : X → ℕ) (a b c x : X) → key a < key b → key b < key c → key x ≡ key b
    → IsOneOf a b c x → x ≡ b
is_second key a b c x ab bc same h = elim h [
  | inl e ↦ absurd (omega (arith, ap key e, same, ab, bc))
  | inr more ↦ elim more [
    | inl e ↦ sym e
    | inr e ↦ absurd (omega (arith, ap key e, same, ab, bc))
  ]
]

is_third : {X : Type 0} (key : X → ℕ) (a b c x : X) → key a < key b → key b < key c → key x ≡ key c
    → IsOneOf a b c x → x ≡ c
is_third key a b c x ab bc same h = elim h [
  | inl e ↦ absurd (omega (arith, ap key e, same, ab, bc))
  | inr more ↦ elim more [
    | inl e ↦ absurd (omega (arith, ap key e, same, ab, bc))
    | inr e ↦ sym e
  ]
]

-- a list with these three elements whose keys do not descend
pub in_order : {X : Type 0} (key : X → ℕ) (a b c : X) (ys : List X) → key a < key b → key b < key c
    → IsPermutation (a ∷ b ∷ c ∷ []) ys → IsNonDecreasing (map key ys) → ys ≡ a ∷ b ∷ c ∷ []
in_order {X} key a b c (u ∷ v ∷ w ∷ []) ab bc p up =
    let xs : List X = a ∷ b ∷ c ∷ [] in
    let ys : List X = u ∷ v ∷ w ∷ [] in
    let back : IsPermutation ys xs = IsPermutation-sym xs ys p in
    let there : (x : X) → Contains xs x → IsOneOf u v w x = λ x h. one_of u v w x (Contains-permutation xs ys x p h) in
    let of_a : IsOneOf u v w a = there a (0, omega arith, refl) in
    let of_b : IsOneOf u v w b = there b (1, omega arith, refl) in
    let of_c : IsOneOf u v w c = there c (2, omega arith, refl) in
    let is_u : IsOneOf a b c u = one_of a b c u (Contains-permutation ys xs u back (0, omega arith, refl)) in
    let is_v : IsOneOf a b c v = one_of a b c v (Contains-permutation ys xs v back (1, omega arith, refl)) in
    let is_w : IsOneOf a b c w = one_of a b c w (Contains-permutation ys xs w back (2, omega arith, refl)) in
    let uv : key u ≤ key v = up 0 1 0 (omega arith) (omega arith) in
    let vw : key v ≤ key w = up 1 2 0 (omega arith) (omega arith) in
    let first : key u ≡ key a = omega (
      arith,
      no_less (key u) (key v) (key w) (key a) uv vw (of_keys key u v w a of_a),
      no_less (key a) (key b) (key c) (key u) (omega arith) (omega arith) (of_keys key a b c u is_u),
    ) in
    let last : key w ≡ key c = omega (
      arith,
      no_more (key u) (key v) (key w) (key c) uv vw (of_keys key u v w c of_c),
      no_more (key a) (key b) (key c) (key w) (omega arith) (omega arith) (of_keys key a b c w is_w),
    ) in
    let middle : key v ≡ key b = is_middle (key u) (key v) (key w) (key b) (omega (arith, first, ab))
    (omega (arith, last, bc)) (of_keys key u v w b of_b) in
    let eu : u ≡ a = is_first key a b c u ab bc first is_u in
    let ev : v ≡ b = is_second key a b c v ab bc middle is_v in
    let ew : w ≡ c = is_third key a b c w ab bc last is_w in
    cc
in_order {X} key a b c [] ab bc p up = absurd (omega (arith, length_permutation (a ∷ b ∷ c ∷ []) [] p))
in_order {X} key a b c (u ∷ []) ab bc p up = absurd (omega (arith, length_permutation (a ∷ b ∷ c ∷ []) (u ∷ []) p))
in_order {X} key a b c (u ∷ v ∷ []) ab bc p up =
    absurd (omega (arith, length_permutation (a ∷ b ∷ c ∷ []) (u ∷ v ∷ []) p))
in_order {X} key a b c (u ∷ v ∷ w ∷ z ∷ zs) ab bc p up =
    absurd (omega (arith, length_permutation (a ∷ b ∷ c ∷ []) (u ∷ v ∷ w ∷ z ∷ zs) p))

-- a list with these two elements whose keys do not descend
pub two_in_order : {X : Type 0} (key : X → ℕ) (a b : X) (ys : List X) → key a < key b
    → IsPermutation (a ∷ b ∷ []) ys → IsNonDecreasing (map key ys) → ys ≡ a ∷ b ∷ []
two_in_order {X} key a b (u ∷ v ∷ []) ab p up =
    let xs : List X = a ∷ b ∷ [] in
    let ys : List X = u ∷ v ∷ [] in
    let back : IsPermutation ys xs = IsPermutation-sym xs ys p in
    let uv : key u ≤ key v = up 0 1 0 (omega arith) (omega arith) in
    by uv (one_of_two u v a (Contains-permutation xs ys a p (0, omega arith, refl)))
    (one_of_two u v b (Contains-permutation xs ys b p (1, omega arith, refl)))
  where
    one_of_two : (u v x : X) → Contains (u ∷ v ∷ []) x → (u ≡ x) ⊎ (v ≡ x)
    one_of_two u v x (zero, within, e) = inl e
    one_of_two u v x (suc zero, within, e) = inr e
    one_of_two u v x (suc (suc k), within, e) = absurd (omega arith)

    by : key u ≤ key v → (u ≡ a) ⊎ (v ≡ a) → (u ≡ b) ⊎ (v ≡ b) → u ∷ v ∷ [] ≡ a ∷ b ∷ []
    by uv (inl first) (inr second) =
        ap (λ (x : X). x ∷ v ∷ []) first ∙ ap (λ (x : X). a ∷ x ∷ []) second
    by uv (inl first) (inl second) = absurd (omega (arith, ab, ap key first, ap key second))
    by uv (inr first) (inl second) = absurd (omega (arith, ab, uv, ap key first, ap key second))
    by uv (inr first) (inr second) = absurd (omega (arith, ab, ap key first, ap key second))
two_in_order key a b [] ab p up =
    let e : 0 ≡ length (a ∷ b ∷ []) = length_permutation (a ∷ b ∷ []) [] p in absurd (omega arith)
two_in_order key a b (u ∷ []) ab p up =
    let e : length (u ∷ []) ≡ length (a ∷ b ∷ []) = length_permutation (a ∷ b ∷ []) (u ∷ []) p in absurd (omega arith)
two_in_order {X} key a b (u ∷ v ∷ w ∷ ys) ab p up =
    let e : length (u ∷ v ∷ w ∷ ys) ≡ length (a ∷ b ∷ []) = length_permutation (a ∷ b ∷ []) (u ∷ v ∷ w ∷ ys) p in
    absurd (omega arith)
