use Rattle.std.proofs.Common.{◌≡◌, ℕ, zero, suc, ◌+◌, ◌<◌, Bool, true, false, cond, List, [], ◌∷◌, ◌++◌, map, filter}
use Rattle.std.proofs.Common.{length, Some, None, refl, sym, ap, ◌∙◌, subst, inl, inr, arith}
use Rattle.std.specs.Prelude.{is_some}
use Rattle.std.specs.List.{All, AllPairs, position_from, count_by}
use Rattle.std.proofs.lemmas.Bool.{cases_Bool, true≢false}
use Rattle.std.proofs.lemmas.List.Elements.{All-nil, All-cons, All-head, All-tail}
use Rattle.std.proofs.lemmas.List.Sums.{sum_by-cons}
use Rattle.std.proofs.lemmas.Option.{none-some, same_Some}

-- what holds of each element of two joined lists holds of each of the first, and of each of the second
pub all_left : {X : Type 0} (P : X → Type 0) (xs ys : List X) → All P (xs ++ ys) → All P xs
all_left P [] ys h = All-nil P
all_left P (x ∷ xs) ys h = All-cons P x xs (All-head P x (xs ++ ys) h) (all_left P xs ys (All-tail P x (xs ++ ys) h))

pub all_right : {X : Type 0} (P : X → Type 0) (xs ys : List X) → All P (xs ++ ys) → All P ys
all_right P [] ys h = h
all_right P (x ∷ xs) ys h = all_right P xs ys (All-tail P x (xs ++ ys) h)

-- what holds of each image holds, by its image, of each element
pub all_unmapped : {X Y : Type 0} (P : Y → Type 0) (f : X → Y) (xs : List X) → All P (map f xs)
    → All (λ (x : X). P (f x)) xs
all_unmapped {X} P f [] h = All-nil (λ (x : X). P (f x))
all_unmapped {X} P f (x ∷ xs) h =
    All-cons (λ (y : X). P (f y)) x xs (All-head P (f x) (map f xs) h)
    (all_unmapped P f xs (All-tail P (f x) (map f xs) h))

-- what holds of each kept element holds of each that passes
pub All-from_filter : {X : Type 0} (test : X → Bool) (P : X → Type 0) (xs : List X) → All P (filter test xs)
    → All (λ (x : X). test x ≡ true → P x) xs
All-from_filter {X} test P [] all = All-nil (λ (x : X). test x ≡ true → P x)
All-from_filter {X} test P (x ∷ xs) all =
    let Passes : X → Type 0 = λ (x : X). test x ≡ true → P x in
    elim (cases_Bool (test x)) as (λ _. All Passes (x ∷ xs)) [
      | inl e ↦ (
          let kept : All P (x ∷ filter test xs) =
          subst (All P) (ap (λ (b : Bool). cond b (x ∷ filter test xs) (filter test xs)) e) all in
          All-cons Passes x xs (λ _. All-head P x (filter test xs) kept)
          (All-from_filter test P xs (All-tail P x (filter test xs) kept)))
      | inr e ↦ (
          let kept : All P (filter test xs) =
          subst (All P) (ap (λ (b : Bool). cond b (x ∷ filter test xs) (filter test xs)) e) all in
          All-cons Passes x xs (λ t. absurd (true≢false (sym t ∙ e))) (All-from_filter test P xs kept))
    ]

-- what holds of the pairs of a list holds of its first element with each later one, and of the pairs of the rest
pub pairs_head : {X : Type 0} (R : X → X → Type 0) (x : X) (xs : List X) → AllPairs R (x ∷ xs) → All (R x) xs
pairs_head R x xs h = λ k d below. h zero (suc k) d (omega arith) (omega arith)

pub pairs_tail : {X : Type 0} (R : X → X → Type 0) (x : X) (xs : List X) → AllPairs R (x ∷ xs) → AllPairs R xs
pairs_tail R x xs h = λ i j d below within. h (suc i) (suc j) d (omega arith) (omega arith)

-- how many pass, by the first element
pub count_by-cons : {X : Type 0} (test : X → Bool) (x : X) (xs : List X)
    → count_by test (x ∷ xs) ≡ cond (test x) 1 0 + count_by test xs
count_by-cons {X} test x xs = sum_by-cons (λ (y : X). cond (test y) 1 0) x xs

-- a search goes on to an element at the end only where nothing before it passed
pub position_from-push : {X : Type 0} (test : X → Bool) (i : ℕ) (xs : List X) (x : X)
    → position_from test i (xs ++ x ∷ []) ≡ cond (is_some (position_from test i xs)) (position_from test i xs)
    (cond (test x) (Some (i + length xs)) None)
position_from-push test i [] x = ap (λ n. cond (test x) (Some n) None) (omega arith)
position_from-push test i (y ∷ ys) x =
    by (test y) (position_from-push test (i + 1) ys x ∙ ap (λ n. cond (is_some (position_from test (i + 1) ys))
    (position_from test (i + 1) ys) (cond (test x) (Some n) None)) (omega arith))
  where
    by : (b : Bool) → position_from test (i + 1) (ys ++ x ∷ []) ≡ cond (is_some (position_from test (i + 1) ys))
        (position_from test (i + 1) ys) (cond (test x) (Some (i + length (y ∷ ys))) None)
        → cond b (Some i) (position_from test (i + 1) (ys ++ x ∷ []))
        ≡ cond (is_some (cond b (Some i) (position_from test (i + 1) ys)))
        (cond b (Some i) (position_from test (i + 1) ys)) (cond (test x) (Some (i + length (y ∷ ys))) None)
    by true h = refl
    by false h = h

-- a place that is found is one of the list
pub position_from-lt : {X : Type 0} (test : X → Bool) (i : ℕ) (xs : List X) (place : ℕ)
    → position_from test i xs ≡ Some place → place < i + length xs
position_from-lt test i [] place h = absurd (none-some place h)
position_from-lt test i (x ∷ xs) place h = by (test x) (position_from-lt test (i + 1) xs place) h
  where
    by : (b : Bool) → (position_from test (i + 1) xs ≡ Some place → place < (i + 1) + length xs)
        → cond b (Some i) (position_from test (i + 1) xs) ≡ Some place → place < i + length (x ∷ xs)
    by true more h = let e = same_Some i place h in omega arith
    by false more h = let e = more h in omega arith
