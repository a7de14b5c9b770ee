-- The first margin of the least slack.
use Rattle.std.proofs.Common.{◌≡◌, ◌≢◌, ℕ, ◌+◌, ◌<◌, ◌≤◌, Bool, true, false, cond, List, [], ◌∷◌, get_or, length, map}
use Rattle.std.proofs.Common.{take, Some, None, suc, refl, sym, ap, ◌∙◌, ⊎_elim, arith}
use Rattle.std.specs.Prelude.{nat_le}
use Rattle.std.specs.List.{All, find, position_from}
use Rattle.std.proofs.lemmas.Bool.{cases_eq, le-leb, leb-false, leb-true}
use Rattle.std.proofs.lemmas.Bool.Decides.{nat_tests}
use Rattle.std.proofs.lemmas.List.{get_or-take, get_or_default, length-take-le}
use Rattle.std.proofs.lemmas.List.Elements.{All-head, All-tail}
use Rattle.std.proofs.lemmas.List.Folds.{list_all_at}
use Rattle.std.proofs.lemmas.List.Sums.{list_all-from_AllPass}
use Rattle.std.proofs.lemmas.Option.{none-some, same_Some}
use Rattle.ats_topology.proofs.PositionLemmas.{IsFound, found, position_from-some}
use Rattle.ats_explain.specs.Margins.{is_no_slacker, is_tightest}
use Rattle.ats_explain.specs.declared.margin.Margin.{Margin}

-- of the first margins, this one has the least slack, and each before it more
pub record IsBest (margins : List Margin) (i place : ℕ) : Type 0 where
  pub within : place < i
  pub least : (k : ℕ) (d : Margin) → k < i → (get_or margins place d).deadline + (get_or margins k d).sum
      ≤ (get_or margins k d).deadline + (get_or margins place d).sum
  pub first : (k : ℕ) (d : Margin) → k < place → (get_or margins place d).deadline + (get_or margins k d).sum
      < (get_or margins k d).deadline + (get_or margins place d).sum

-- the first margin alone
pub best_first : (margins : List Margin) → IsBest margins 1 0
best_first margins = record {
  within = omega arith;
  least = λ k d below. (let zero_is : k ≡ 0 = omega arith in rw zero_is (omega arith));
  first = λ k d below. absurd (omega arith);
}

-- one margin more, that has no less slack
pub best_stays : (margins : List Margin) (i place : ℕ) → IsBest margins i place
    → ((d : Margin) → is_no_slacker (get_or margins place d) (get_or margins i d) ≡ true)
    → IsBest margins (i + 1) place
best_stays margins i place best test = record {
  within = omega (arith, best.within);
  least = λ k d below. ⊎_elim (λ same. rw same (leb-true _ _ (test d)))
      (λ other. best.least k d (let differ : k ≢ i = other in omega (arith, differ))) (cases_eq k i);
  first = best.first;
}

-- and one that has less
pub best_goes : (margins : List Margin) (i place : ℕ) → IsBest margins i place
    → ((d : Margin) → is_no_slacker (get_or margins place d) (get_or margins i d) ≡ false)
    → IsBest margins (i + 1) i
best_goes margins i place best test = record {
  within = omega arith;
  least = λ k d below. ⊎_elim (λ same. rw same (omega arith))
      (λ other. (
      let before : k < i = (let differ : k ≢ i = other in omega (arith, differ)) in
      omega (arith, best.least k d before, leb-false _ _ (test d))))
      (cases_eq k i);
  first = λ k d before. omega (arith, best.least k d before, leb-false _ _ (test d));
}

-- none that passes
none_passes : {X : Type 0} (t : X → Bool) (k : ℕ) (xs : List X) → All (λ (x : X). t x ≡ false) xs
    → position_from t k xs ≡ None
none_passes t k [] all = refl
none_passes {X} t k (x ∷ xs) all =
    ap (λ (b : Bool). cond b (Some k) (position_from t (k + 1) xs)) (All-head (λ (x : X). t x ≡ false) x xs all)
    ∙ none_passes t (k + 1) xs (All-tail (λ (x : X). t x ≡ false) x xs all)

-- the best of all is the first than which none is tighter
pub best_is : (margins : List Margin) (place : ℕ) → IsBest margins (length margins) place
    → Some place ≡ position_from (is_tightest margins) 0 margins
best_is margins place best =
    let d : Margin = record { sum = 0; deadline = 0 } in
    let passes : is_tightest margins (get_or margins place d) ≡ true =
    list_all-from_AllPass (is_no_slacker (get_or margins place d)) margins
    (λ k e h. rw (get_or_default margins k e d h) (le-leb _ _ (best.least k d h))) in
    let short : length (take place margins) ≡ place = length-take-le place margins (omega (arith, best.within)) in
    let fails : All (λ (m : Margin). is_tightest margins m ≡ false) (take place margins) =
    λ k e h. (
    let before : k < place = omega (arith, h, short) in
    rw (get_or-take place margins k e before, get_or_default margins k e d (omega (arith, best.within, before)))
    (list_all_at (is_no_slacker (get_or margins k d)) margins place d best.within
    (not_leb _ _ (best.first k d before)))) in
    sym (position_from-some (is_tightest margins) 0 margins place d (none_passes (is_tightest margins) 0
    (take place margins) fails) best.within passes ∙ ap Some (omega arith))
  where
    not_leb : (a b : ℕ) → b < a → nat_le a b ≡ false
    not_leb a b h = grind (arith, nat_tests)

-- the first that passes, of a list and of what a function makes of it
pub found_before : {X : Type 0} (f : X → Margin) (t : Margin → Bool) (k : ℕ) (xs : List X) (i : ℕ) (d : X)
    → position_from t k (map f xs) ≡ Some (k + i) → find (λ (x : X). t (f x)) xs ≡ Some (get_or xs i d)
found_before f t k [] i d h = absurd (none-some (k + i) h)
found_before {X} f t k (x ∷ xs) i d h = by (t (f x)) refl h (λ j. found_before f t (k + 1) xs j d)
  where
    by : (b : Bool) → t (f x) ≡ b → cond b (Some k) (position_from t (k + 1) (map f xs)) ≡ Some (k + i)
        → ((j : ℕ) → position_from t (k + 1) (map f xs) ≡ Some ((k + 1) + j)
        → find (λ (x : X). t (f x)) xs ≡ Some (get_or xs j d))
        → cond b (Some x) (find (λ (x : X). t (f x)) xs) ≡ Some (get_or (x ∷ xs) i d)
    by true e h more =
        let here : k ≡ k + i = same_Some k (k + i) h in
        let zero_is : i ≡ 0 = omega (arith, here) in
        ap (λ (n : ℕ). Some (get_or (x ∷ xs) n d)) (sym zero_is)
    by false e h more =
        let m : Margin = record { sum = 0; deadline = 0 } in
        let at : IsFound t (map f xs) m (k + 1) (k + i) = found t (k + 1) (map f xs) (k + i) m h in
        let next : i ≡ suc at.place = omega (arith, at.is) in
        let later : k + i ≡ (k + 1) + at.place = omega (arith, at.is) in
        more at.place (h ∙ ap Some later)
        ∙ ap (λ (n : ℕ). Some (get_or (x ∷ xs) n d)) (sym next)

pub none_before : {X : Type 0} (f : X → Margin) (t : Margin → Bool) (k : ℕ) (xs : List X)
    → position_from t k (map f xs) ≡ None → find (λ (x : X). t (f x)) xs ≡ None
none_before f t k [] h = refl
none_before {X} f t k (x ∷ xs) h = by (t (f x)) h (none_before f t (k + 1) xs)
  where
    by : (b : Bool) → cond b (Some k) (position_from t (k + 1) (map f xs)) ≡ None
        → (position_from t (k + 1) (map f xs) ≡ None → find (λ (x : X). t (f x)) xs ≡ None)
        → cond b (Some x) (find (λ (x : X). t (f x)) xs) ≡ None
    by true h more = absurd (none-some k (sym h))
    by false h more = more h
