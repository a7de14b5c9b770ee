-- A list has one order by a test in which elements that tie stay as they were.
use Rattle.std.proofs.Common.{◌≡◌, ℕ, zero, suc, ◌+◌, ◌<◌, ◌≤◌, Bool, true, false, not, cond, List, [], ◌∷◌, length}
use Rattle.std.proofs.Common.{get_or, filter, refl, sym, ap, ◌∙◌, subst, arith}
use Rattle.std.specs.Prelude.{◌&&◌, IsPermutation}
use Rattle.std.specs.Cmp.{IsStrictWeakOrder}
use Rattle.std.specs.List.{All}
use Rattle.std.specs.List.Sorted.{IsSortedBy, IsStableBy, ties}
use Rattle.std.proofs.lemmas.Bool.{false≢true}
use Rattle.std.proofs.lemmas.List.Elements.{All-cons, All-filter, All-head, All-nil}
use Rattle.std.proofs.lemmas.List.Sorted.{All-permutation, IsPermutation-cons, IsPermutation-middle, IsPermutation-refl}
use Rattle.std.proofs.lemmas.List.Sorted.{IsPermutation-sym, IsPermutation-trans, sorted_far}

abbrev head_of : {X : Type 0} → X → List X → X
head_of d [] = d
head_of d (x ∷ xs) = x

abbrev rest_of : {X : Type 0} → List X → List X
rest_of [] = []
rest_of (x ∷ xs) = xs

module _ {X : Type 0} (lt : X → X → Bool) (o : IsStrictWeakOrder lt) where
  -- no element is less than an earlier one
  abbrev Ascends : List X → Type 0
  Ascends [] = Unit {0}
  Ascends (x ∷ xs) = All (λ y. lt y x ≡ false) xs × Ascends xs

  irreflexive : (x : X) → lt x x ≡ false
  irreflexive x = by (lt x x) (o.one_way x x)
    where
      by : (b : Bool) → (b ≡ true → b ≡ false) → b ≡ false
      by true less = less refl
      by false less = refl

  ties-both : (x y : X) → lt x y ≡ false → lt y x ≡ false → ties lt x y ≡ true
  ties-both x y h k = ap (λ (b : Bool). not b && not (lt y x)) h ∙ ap (λ (b : Bool). not b) k

  ties-itself : (x : X) → ties lt x x ≡ true
  ties-itself x = ties-both x x (irreflexive x) (irreflexive x)

  ascends-from : (xs : List X) → IsSortedBy lt xs → Ascends xs
  ascends-from xs sorted = by xs (λ i j d le within. sorted_far lt o xs sorted i j d le within)
    where
      by : (xs : List X)
          → ((i j : ℕ) (d : X) → i ≤ j → j < length xs → lt (get_or xs j d) (get_or xs i d) ≡ false) → Ascends xs
      by [] far = tt
      by (x ∷ xs) far = (
        (λ k d within. far 0 (suc k) d (omega arith) (omega arith)),
        by xs (λ i j d le within. far (suc i) (suc j) d (omega arith) (omega arith)),
      )

  -- an element that ties with one of a list that ascends is not less than the first of the list
  not-before : (x z : X) (zs rest : List X) → Ascends (z ∷ zs) → filter (ties lt x) (z ∷ zs) ≡ x ∷ rest
      → lt x z ≡ false
  not-before x z zs rest up has =
      All-head (λ y. lt y z ≡ false) x rest (subst (All (λ y. lt y z ≡ false)) has
      (All-filter (ties lt x) (λ y. lt y z ≡ false) (z ∷ zs)
      (All-cons (λ y. lt y z ≡ false) z zs (irreflexive z) up.0)))

  with-itself : (x : X) (xs : List X) → filter (ties lt x) (x ∷ xs) ≡ x ∷ filter (ties lt x) xs
  with-itself x xs =
      ap (λ (b : Bool). cond b (x ∷ filter (ties lt x) xs) (filter (ties lt x) xs)) (ties-itself x)

  no-ties : (x : X) (xs : List X) → filter (ties lt x) (x ∷ xs) ≡ [] → ⊥
  no-ties x xs none =
      let some : [] ≡ x ∷ filter (ties lt x) xs = sym none ∙ with-itself x xs in
      omega (arith, ap (λ (zs : List X). length zs) some)

  -- two lists that ascend, with the same elements that tie with each in one order, are equal
  pub one-order : (xs ys : List X) → Ascends xs → Ascends ys
      → ((a : X) → filter (ties lt a) xs ≡ filter (ties lt a) ys) → xs ≡ ys
  one-order [] [] up up_too same = refl
  one-order [] (y ∷ ys) up up_too same = absurd (no-ties y ys (sym (same y)))
  one-order (x ∷ xs) [] up up_too same = absurd (no-ties x xs (same x))
  one-order (x ∷ xs) (y ∷ ys) up up_too same =
      let above : lt x y ≡ false =
      not-before x y ys (filter (ties lt x) xs) up_too (sym (same x) ∙ with-itself x xs) in
      let below : lt y x ≡ false = not-before y x xs (filter (ties lt y) ys) up (same y ∙ with-itself y ys) in
      let tie : ties lt x y ≡ true = ties-both x y above below in
      let both : x ∷ filter (ties lt x) xs ≡ y ∷ filter (ties lt x) ys =
      sym (with-itself x xs) ∙ same x
      ∙ ap (λ (b : Bool). cond b (y ∷ filter (ties lt x) ys) (filter (ties lt x) ys)) tie in
      let first : x ≡ y = ap (head_of x) both in
      let rest : xs ≡ ys = one-order xs ys up.1 up_too.1 (λ a.
      further a (ties lt a x) (ties lt a y) (ap (ties lt a) first) (same a)) in
      ap (λ (z : X). z ∷ xs) first ∙ ap (λ (zs : List X). y ∷ zs) rest
    where
      further : (a : X) (s t : Bool) → s ≡ t
          → cond s (x ∷ filter (ties lt a) xs) (filter (ties lt a) xs)
          ≡ cond t (y ∷ filter (ties lt a) ys) (filter (ties lt a) ys)
          → filter (ties lt a) xs ≡ filter (ties lt a) ys
      further a true true e h = ap rest_of h
      further a false false e h = h
      further a true false e h = absurd (false≢true (sym e))
      further a false true e h = absurd (false≢true e)

  -- an element put into a list that ascends, before those that it ties with
  abbrev put : X → List X → List X
  put x [] = x ∷ []
  put x (y ∷ ys) = cond (lt y x) (y ∷ put x ys) (x ∷ y ∷ ys)

  -- a list in order
  abbrev pub in_order : List X → List X
  in_order [] = []
  in_order (x ∷ xs) = put x (in_order xs)

  put-permutes : (x : X) (ys : List X) → IsPermutation (x ∷ ys) (put x ys)
  put-permutes x [] = IsPermutation-refl (x ∷ [])
  put-permutes x (y ∷ ys) = by (lt y x) (put-permutes x ys)
    where
      by : (b : Bool) → IsPermutation (x ∷ ys) (put x ys)
          → IsPermutation (x ∷ y ∷ ys) (cond b (y ∷ put x ys) (x ∷ y ∷ ys))
      by true further = IsPermutation-trans (x ∷ y ∷ ys) (y ∷ x ∷ ys) (y ∷ put x ys)
          (IsPermutation-sym (y ∷ x ∷ ys) (x ∷ y ∷ ys) (IsPermutation-middle (y ∷ []) x ys))
          (IsPermutation-cons y (x ∷ ys) (put x ys) further)
      by false further = IsPermutation-refl (x ∷ y ∷ ys)

  pub permutes : (xs : List X) → IsPermutation xs (in_order xs)
  permutes [] = IsPermutation-refl []
  permutes (x ∷ xs) = IsPermutation-trans (x ∷ xs) (x ∷ in_order xs) (put x (in_order xs))
      (IsPermutation-cons x xs (in_order xs) (permutes xs)) (put-permutes x (in_order xs))

  put-ascends : (x : X) (ys : List X) → Ascends ys → Ascends (put x ys)
  put-ascends x [] up = (All-nil (λ y. lt y x ≡ false), tt)
  put-ascends x (y ∷ ys) up = by (lt y x) refl (put-ascends x ys up.1)
    where
      by : (b : Bool) → lt y x ≡ b → Ascends (put x ys) → Ascends (cond b (y ∷ put x ys) (x ∷ y ∷ ys))
      by true less further = (
        All-permutation (λ v. lt v y ≡ false) (x ∷ ys) (put x ys) (put-permutes x ys)
            (All-cons (λ v. lt v y ≡ false) x ys (o.one_way y x less) up.0),
        further,
      )
      by false after further = (
        All-cons (λ v. lt v x ≡ false) y ys after (λ k d within. o.chain (get_or ys k d) y x (up.0 k d within) after),
        up,
      )

  ascends : (xs : List X) → Ascends (in_order xs)
  ascends [] = tt
  ascends (x ∷ xs) = put-ascends x (in_order xs) (ascends xs)

  sorted-from : (xs : List X) → Ascends xs → IsSortedBy lt xs
  sorted-from [] up = λ k d low within. absurd (omega arith)
  sorted-from (x ∷ xs) up = λ k d low within. by (sorted-from xs up.1) k d within
    where
      by : IsSortedBy lt xs → (k : ℕ) (d : X) → k + 1 < length (x ∷ xs)
          → lt (get_or (x ∷ xs) (k + 1) d) (get_or (x ∷ xs) k d) ≡ false
      by further zero d within = up.0 0 d (omega arith)
      by further (suc k) d within =
          let next : suc k + 1 ≡ suc (k + 1) = omega arith in
          subst (λ (n : ℕ). lt (get_or (x ∷ xs) n d) (get_or xs k d) ≡ false) (sym next)
          (further k d (omega arith) (omega arith))

  pub sorts : (xs : List X) → IsSortedBy lt (in_order xs)
  sorts xs = sorted-from (in_order xs) (ascends xs)

  -- two elements that tie with one are not less than each other
  tied-apart : (a x y : X) → ties lt a x ≡ true → ties lt a y ≡ true → lt y x ≡ false
  tied-apart a x y h k = o.chain y a x (second (lt a y) (lt y a) k) (first (lt a x) (lt x a) h)
    where
      first : (p q : Bool) → not p && not q ≡ true → p ≡ false
      first true q e = absurd (false≢true e)
      first false q e = refl

      second : (p q : Bool) → not p && not q ≡ true → q ≡ false
      second true q e = absurd (false≢true e)
      second false true e = absurd (false≢true e)
      second false false e = refl

  put-keeps : (a x : X) (ys : List X) → filter (ties lt a) (put x ys) ≡ filter (ties lt a) (x ∷ ys)
  put-keeps a x [] = refl
  put-keeps a x (y ∷ ys) = by (lt y x) refl (put-keeps a x ys)
    where
      -- two elements change places, unless both tie
      swap : (s t : Bool) (zs : List X) → (s ≡ true → t ≡ true → ⊥)
          → cond t (y ∷ cond s (x ∷ zs) zs) (cond s (x ∷ zs) zs) ≡ cond s (x ∷ cond t (y ∷ zs) zs) (cond t (y ∷ zs) zs)
      swap true true zs not_both = absurd (not_both refl refl)
      swap true false zs not_both = refl
      swap false true zs not_both = refl
      swap false false zs not_both = refl

      by : (b : Bool) → lt y x ≡ b → filter (ties lt a) (put x ys) ≡ filter (ties lt a) (x ∷ ys)
          → filter (ties lt a) (cond b (y ∷ put x ys) (x ∷ y ∷ ys)) ≡ filter (ties lt a) (x ∷ y ∷ ys)
      by true less further =
          ap (λ (zs : List X). cond (ties lt a y) (y ∷ zs) zs) further
          ∙ swap (ties lt a x) (ties lt a y) (filter (ties lt a) ys) (λ h k.
          false≢true (sym (tied-apart a x y h k) ∙ less))
      by false after further = refl

  pub keeps-ties : (xs : List X) → IsStableBy lt xs (in_order xs)
  keeps-ties [] = λ a. refl
  keeps-ties (x ∷ xs) = λ a. put-keeps a x (in_order xs)
      ∙ ap (λ (zs : List X). cond (ties lt a x) (x ∷ zs) zs) (keeps-ties xs a)

  -- two orders of one list are equal
  pub one-result : (xs ys zs : List X) → IsSortedBy lt ys → IsSortedBy lt zs → IsStableBy lt xs ys
      → IsStableBy lt xs zs → ys ≡ zs
  one-result xs ys zs sorted sorted_too stable stable_too =
      one-order ys zs (ascends-from ys sorted) (ascends-from zs sorted_too) (λ a. stable a ∙ sym (stable_too a))
