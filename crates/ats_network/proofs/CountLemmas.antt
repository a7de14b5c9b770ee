use Rattle.std.proofs.Common.{◌≡◌, ℕ, zero, suc, ◌+◌, ◌<◌, Bool, true, false, cond, List, [], ◌∷◌, length, get_or, ap}
use Rattle.std.proofs.Common.{◌∙◌, arith}
use Rattle.std.specs.List.{count_by}
use Rattle.ats_facts.proofs.Lists.{count_by-cons}

count_passes : {X : Type 0} (t : X → Bool) (x : X) (xs : List X) → t x ≡ true → count_by t (x ∷ xs) ≡ 1 + count_by t xs
count_passes t x xs passes = count_by-cons t x xs ∙ ap (λ (b : Bool). cond b 1 0 + count_by t xs) passes

-- where none passes, the element at a place does not
none_passes : {X : Type 0} (t : X → Bool) (xs : List X) (i : ℕ) (d : X) → count_by t xs ≡ 0 → i < length xs
    → t (get_or xs i d) ≡ true → ⊥
none_passes t [] i d none within passes = omega arith
none_passes t (x ∷ xs) zero d none within passes = omega (arith, count_passes t x xs passes)
none_passes t (x ∷ xs) (suc i) d none within passes =
    none_passes t xs i d (omega (arith, count_by-cons t x xs)) (omega arith) passes

-- where one passes, it stands at one place
pub one_passes : {X : Type 0} (t : X → Bool) (xs : List X) (i j : ℕ) (d : X) → count_by t xs ≡ 1 → i < length xs
    → j < length xs → t (get_or xs i d) ≡ true → t (get_or xs j d) ≡ true → i ≡ j
one_passes t [] i j d one within also first second = absurd (omega arith)
one_passes t (x ∷ xs) zero zero d one within also first second = omega arith
one_passes t (x ∷ xs) zero (suc j) d one within also first second =
    absurd (none_passes t xs j d (omega (arith, count_passes t x xs first)) (omega arith) second)
one_passes t (x ∷ xs) (suc i) zero d one within also first second =
    absurd (none_passes t xs i d (omega (arith, count_passes t x xs second)) (omega arith) first)
one_passes t (x ∷ xs) (suc i) (suc j) d one within also first second =
    by (t x) (count_by-cons t x xs) (λ rest. one_passes t xs i j d rest (omega arith) (omega arith) first second)
  where
    by : (b : Bool) → count_by t (x ∷ xs) ≡ cond b 1 0 + count_by t xs → (count_by t xs ≡ 1 → i ≡ j) → suc i ≡ suc j
    by true h more = absurd (none_passes t xs i d (omega (arith, h)) (omega arith) first)
    by false h more = ap suc (more (omega (arith, h)))
