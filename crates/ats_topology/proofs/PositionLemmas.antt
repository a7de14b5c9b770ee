use Rattle.std.proofs.Common.{◌≡◌, ℕ, zero, suc, ◌+◌, ◌<◌, Bool, true, false, cond, List, [], ◌∷◌, length, get_or, take}
use Rattle.std.proofs.Common.{Option, Some, None, refl, sym, ap, ◌∙◌, arith}
use Rattle.std.specs.List.{position_from, All}
use Rattle.std.proofs.lemmas.List.Elements.{All-nil, All-cons}
use Rattle.std.proofs.lemmas.Option.{same_Some, none-some}

-- a search that found nothing passed over its first element
next : (b : Bool) (k : ℕ) (o : Option ℕ) → cond b (Some k) o ≡ None → (b ≡ false) × (o ≡ None)
next true k o h = absurd (none-some k (sym h))
next false k o h = (refl, h)

-- where no element before a place passes and the one there does, it is the first that passes
pub position_from-some : {X : Type 0} (t : X → Bool) (k : ℕ) (xs : List X) (i : ℕ) (d : X)
    → position_from t k (take i xs) ≡ None → i < length xs → t (get_or xs i d) ≡ true
    → position_from t k xs ≡ Some (k + i)
position_from-some t k [] i d none within passes = absurd (omega arith)
position_from-some t k (x ∷ xs) zero d none within passes =
    ap (λ (b : Bool). cond b (Some k) (position_from t (k + 1) xs)) passes ∙ ap Some (omega arith)
position_from-some t k (x ∷ xs) (suc i) d none within passes =
    let h : (t x ≡ false) × (position_from t (k + 1) (take i xs) ≡ None) =
    next (t x) k (position_from t (k + 1) (take i xs)) none in
    ap (λ (b : Bool). cond b (Some k) (position_from t (k + 1) xs)) h.0
    ∙ position_from-some t (k + 1) xs i d h.1 (omega arith) passes ∙ ap Some (omega arith)

to_next : {X : Type 0} (t : X → Bool) (k : ℕ) (xs : List X) (i n : ℕ) (d : X) → position_from t k (take i xs) ≡ None
    → i < length xs → t (get_or xs i d) ≡ false → n ≡ suc i → position_from t k (take n xs) ≡ None
to_next t k xs i zero d none within fails e = absurd (omega arith)
to_next t k [] i (suc n) d none within fails e = refl
to_next t k (x ∷ xs) zero (suc n) d none within fails e =
    let last : n ≡ zero = omega arith in
    ap (λ (m : ℕ). cond (t x) (Some k) (position_from t (k + 1) (take m xs))) last
    ∙ ap (λ (b : Bool). cond b (Some k) None) fails
to_next t k (x ∷ xs) (suc i) (suc n) d none within fails e =
    let h : (t x ≡ false) × (position_from t (k + 1) (take i xs) ≡ None) =
    next (t x) k (position_from t (k + 1) (take i xs)) none in
    ap (λ (b : Bool). cond b (Some k) (position_from t (k + 1) (take n xs))) h.0
    ∙ to_next t (k + 1) xs i n d h.1 (omega arith) fails (omega arith)

-- where no element before a place passes, and the one there does not, none before the next place passes
pub position_from-none : {X : Type 0} (t : X → Bool) (k : ℕ) (xs : List X) (i : ℕ) (d : X)
    → position_from t k (take i xs) ≡ None → i < length xs → t (get_or xs i d) ≡ false
    → position_from t k (take (i + 1) xs) ≡ None
position_from-none t k xs i d none within fails = to_next t k xs i (i + 1) d none within fails (omega arith)

-- where none passes, each fails
pub all_fail : {X : Type 0} (t : X → Bool) (k : ℕ) (xs : List X) → position_from t k xs ≡ None
    → All (λ (x : X). t x ≡ false) xs
all_fail t k [] none = All-nil (λ x. t x ≡ false)
all_fail t k (x ∷ xs) none =
    let h : (t x ≡ false) × (position_from t (k + 1) xs ≡ None) = next (t x) k (position_from t (k + 1) xs) none in
    All-cons (λ y. t y ≡ false) x xs h.0 (all_fail t (k + 1) xs h.1)

-- what stands at the place that is found
pub record IsFound {X : Type 0} (t : X → Bool) (xs : List X) (d : X) (k i : ℕ) : Type 0 where
  pub place : ℕ
  pub is : i ≡ k + place
  pub within : place < length xs
  pub passes : t (get_or xs place d) ≡ true

pub found : {X : Type 0} (t : X → Bool) (k : ℕ) (xs : List X) (i : ℕ) (d : X) → position_from t k xs ≡ Some i
    → IsFound t xs d k i
found t k [] i d h = absurd (none-some i h)
found t k (x ∷ xs) i d h = by (t x) refl h (found t (k + 1) xs i d)
  where
    by : (b : Bool) → t x ≡ b → cond b (Some k) (position_from t (k + 1) xs) ≡ Some i
        → (position_from t (k + 1) xs ≡ Some i → IsFound t xs d (k + 1) i) → IsFound t (x ∷ xs) d k i
    by true e h more = let here : k ≡ i = same_Some k i h in
        record { place = zero; is = omega arith; within = omega arith; passes = e }
    by false e h more =
        let f : IsFound t xs d (k + 1) i = more h in
        record { place = suc f.place; is = omega (arith, f.is); within = omega (arith, f.within); passes = f.passes }
