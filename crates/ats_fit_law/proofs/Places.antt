use Rattle.std.proofs.Common.{◌≡◌, ℕ, zero, suc, ◌+◌, ◌<◌, ◌≤◌, Bool, true, false, cond, List, [], ◌∷◌, length, get_or}
use Rattle.std.proofs.Common.{All, refl, sym, ◌∙◌, subst, arith}
use Rattle.std.specs.Prelude.{AllPairs, Contains, count_by, if◌then◌else◌}
use Rattle.std.proofs.lemmas.List.Elements.{All-nil, All-cons, All-weaker}
use Rattle.std.proofs.lemmas.List.Kept.{AllPairs-cons}
use Rattle.ats_facts.proofs.Lists.{count_by-cons}

-- The places of the elements that pass a test.

-- where the elements are numbered from this number on
abbrev pub places_from : {X : Type 0} → (X → Bool) → ℕ → List X → List ℕ
places_from test n [] = []
places_from test n (x ∷ xs) = if test x then n ∷ places_from test (n + 1) xs else places_from test (n + 1) xs

-- as many as are counted
pub length-places : {X : Type 0} (test : X → Bool) (n : ℕ) (xs : List X)
    → length (places_from test n xs) ≡ count_by test xs
length-places test n [] = refl
length-places {X} test n (x ∷ xs) =
    by (test x) (length-places test (n + 1) xs) ∙ sym (count_by-cons test x xs)
  where
    by : (b : Bool) → length (places_from test (n + 1) xs) ≡ count_by test xs
        → length (if b then n ∷ places_from test (n + 1) xs else places_from test (n + 1) xs)
        ≡ cond b 1 0 + count_by test xs
    by true rest = omega (arith, rest)
    by false rest = omega (arith, rest)

-- none before the first number
past : {X : Type 0} (test : X → Bool) (n : ℕ) (xs : List X) → All (λ k. n ≤ k) (places_from test n xs)
past test n [] = All-nil (λ k. n ≤ k)
past {X} test n (x ∷ xs) =
    by (test x) (All-weaker (λ k. n + 1 ≤ k) (λ k. n ≤ k) (λ k le. omega arith) (places_from test (n + 1) xs)
    (past test (n + 1) xs))
  where
    by : (b : Bool) → All (λ k. n ≤ k) (places_from test (n + 1) xs)
        → All (λ k. n ≤ k) (if b then n ∷ places_from test (n + 1) xs else places_from test (n + 1) xs)
    by true rest = All-cons (λ k. n ≤ k) n (places_from test (n + 1) xs) (omega arith) rest
    by false rest = rest

-- in order
pub places_ascend : {X : Type 0} (test : X → Bool) (n : ℕ) (xs : List X)
    → AllPairs (λ i j. i < j) (places_from test n xs)
places_ascend test n [] = λ i j d before within. absurd (omega arith)
places_ascend {X} test n (x ∷ xs) =
    by (test x) (places_ascend test (n + 1) xs)
    (All-weaker (λ k. n + 1 ≤ k) (λ k. n < k) (λ k le. omega arith) (places_from test (n + 1) xs)
    (past test (n + 1) xs))
  where
    by : (b : Bool) → AllPairs (λ i j. i < j) (places_from test (n + 1) xs)
        → All (λ k. n < k) (places_from test (n + 1) xs)
        → AllPairs (λ i j. i < j) (if b then n ∷ places_from test (n + 1) xs else places_from test (n + 1) xs)
    by true rest later = AllPairs-cons (λ i j. i < j) n (places_from test (n + 1) xs) later rest
    by false rest later = rest

-- each is of an element that passes
pub record IsPlace {X : Type 0} (test : X → Bool) (n : ℕ) (xs : List X) (k : ℕ) : Type 0 where
  pub offset : ℕ
  pub within : offset < length xs
  pub place : k ≡ n + offset
  pub passes : (d : X) → test (get_or xs offset d) ≡ true

one_further : {X : Type 0} (test : X → Bool) (n : ℕ) (x : X) (xs : List X) (k : ℕ) → IsPlace test (n + 1) xs k
    → IsPlace test n (x ∷ xs) k
one_further test n x xs k is = record {
  offset = suc is.offset;
  within = omega (arith, is.within);
  place = omega (arith, is.place);
  passes = λ d. is.passes d;
}

pub all_places : {X : Type 0} (test : X → Bool) (n : ℕ) (xs : List X)
    → All (IsPlace test n xs) (places_from test n xs)
all_places test n [] = All-nil (IsPlace test n [])
all_places {X} test n (x ∷ xs) =
    by (test x) refl (All-weaker (IsPlace test (n + 1) xs) (IsPlace test n (x ∷ xs)) (one_further test n x xs)
    (places_from test (n + 1) xs) (all_places test (n + 1) xs))
  where
    by : (b : Bool) → test x ≡ b → All (IsPlace test n (x ∷ xs)) (places_from test (n + 1) xs)
        → All (IsPlace test n (x ∷ xs))
        (if b then n ∷ places_from test (n + 1) xs else places_from test (n + 1) xs)
    by true passed rest =
        All-cons (IsPlace test n (x ∷ xs)) n (places_from test (n + 1) xs)
        (record { offset = 0; within = omega arith; place = omega arith; passes = λ d. passed }) rest
    by false passed rest = rest

later_contained : (n k : ℕ) (ks : List ℕ) → Contains ks k → Contains (n ∷ ks) k
later_contained n k ks has = (suc has.0, omega (arith, has.1), has.2)

-- and each element that passes has its place there
pub contains_place : {X : Type 0} (test : X → Bool) (n : ℕ) (xs : List X) (k : ℕ) (d : X) → k < length xs
    → test (get_or xs k d) ≡ true → Contains (places_from test n xs) (n + k)
contains_place test n [] k d within passes = absurd (omega arith)
contains_place {X} test n (x ∷ xs) zero d within passes =
    subst (λ (b : Bool). Contains (if b then n ∷ places_from test (n + 1) xs else places_from test (n + 1) xs) (n + 0))
    (sym passes) (0, omega arith, omega arith)
contains_place {X} test n (x ∷ xs) (suc k) d within passes =
    let next : n + 1 + k ≡ n + suc k = omega arith in
    by (test x) (subst (Contains (places_from test (n + 1) xs)) next
    (contains_place test (n + 1) xs k d (omega arith) passes))
  where
    by : (b : Bool) → Contains (places_from test (n + 1) xs) (n + suc k)
        → Contains (if b then n ∷ places_from test (n + 1) xs else places_from test (n + 1) xs) (n + suc k)
    by true has = later_contained n (n + suc k) (places_from test (n + 1) xs) has
    by false has = has
