use Rattle.std.proofs.Common.{◌≡◌, ℕ, ◌+◌, ◌≤◌, Bool, true, false, cond, List, [], ◌∷◌, ◌++◌}
use Rattle.std.proofs.Common.{map, filter, get_or, All, refl, ap, ◌∙◌, inl, inr, arith}
use Rattle.std.specs.Prelude.{AllPairs}
use Rattle.std.specs.List.Sorted.{IsNonDecreasing}
use Rattle.std.proofs.lemmas.Bool.{cases_eq}
use Rattle.std.proofs.lemmas.List.{get_or-map, length-map}
use Rattle.std.proofs.lemmas.List.Elements.{All-head, All-tail, All-append, All-map, All-weaker}
use Rattle.std.proofs.lemmas.List.Elements.{filter-append}
use Rattle.std.proofs.lemmas.List.Kept.{AllPairs-cons}
use Rattle.ats_facts.proofs.Lists.{pairs_head, pairs_tail}

-- Lists, one behind another, and their images.

-- where images pass one test exactly where elements pass another, the images that are kept are those of what is kept
pub filter-map : {X Y : Type 0} (test : Y → Bool) (own : X → Bool) (f : X → Y) → ((x : X) → test (f x) ≡ own x)
    → (xs : List X) → filter test (map f xs) ≡ map f (filter own xs)
filter-map test own f same [] = refl
filter-map {X} {Y} test own f same (x ∷ xs) =
    by (test (f x)) (own x) (same x) (filter-map test own f same xs)
  where
    by : (a b : Bool) → a ≡ b → filter test (map f xs) ≡ map f (filter own xs)
        → cond a (f x ∷ filter test (map f xs)) (filter test (map f xs))
        ≡ map f (cond b (x ∷ filter own xs) (filter own xs))
    by true true e rest = ap (λ (ys : List Y). f x ∷ ys) rest
    by true false e rest = cc
    by false true e rest = cc
    by false false e rest = rest

-- what is kept of a list and of images behind it
pub filter_behind : {X : Type 0} (test : X → Bool) (f : X → X) → ((x : X) → test (f x) ≡ test x) → (xs ys : List X)
    → filter test (xs ++ map f ys) ≡ filter test xs ++ map f (filter test ys)
filter_behind {X} test f same xs ys =
    filter-append test xs (map f ys) ∙ ap (λ (zs : List X). filter test xs ++ zs) (filter-map test test f same ys)

-- a relation of any two images
pub all_of_all-map : {X Y : Type 0} (R : Y → Y → Type 0) (f : X → Y) (xs : List X)
    → All (λ (x : X). All (λ (z : X). R (f x) (f z)) xs) xs → All (λ (y : Y). All (R y) (map f xs)) (map f xs)
all_of_all-map {X} {Y} R f xs all =
    All-map (λ (y : Y). All (R y) (map f xs)) f xs
    (All-weaker (λ (x : X). All (λ (z : X). R (f x) (f z)) xs) (λ (x : X). All (R (f x)) (map f xs))
    (λ x each. All-map (R (f x)) f xs each) xs all)

-- of any two elements of two lists
pub all_of_all-append : {X : Type 0} (R : X → X → Type 0) (xs ys : List X) → All (λ (x : X). All (R x) xs) xs
    → All (λ (x : X). All (R x) ys) xs → All (λ (y : X). All (R y) xs) ys → All (λ (y : X). All (R y) ys) ys
    → All (λ (x : X). All (R x) (xs ++ ys)) (xs ++ ys)
all_of_all-append {X} R xs ys first across back second =
    All-append (λ (x : X). All (R x) (xs ++ ys)) xs ys
    (λ k d h. All-append (R (get_or xs k d)) xs ys (first k d h) (across k d h))
    (λ k d h. All-append (R (get_or ys k d)) xs ys (back k d h) (second k d h))

-- where a fact on elements and another one give a relation of both
pub all_across : {X : Type 0} (P Q : X → Type 0) (R : X → X → Type 0) → ((x y : X) → P x → Q y → R x y)
    → (xs ys : List X) → All P xs → All Q ys → All (λ (x : X). All (R x) ys) xs
all_across {X} P Q R gives xs ys p q k d h l e i = gives (get_or xs k d) (get_or ys l e) (p k d h) (q l e i)

-- a relation of images in order
pub pairs-map : {X Y : Type 0} (R : Y → Y → Type 0) (f : X → Y) (xs : List X)
    → AllPairs (λ (x z : X). R (f x) (f z)) xs → AllPairs R (map f xs)
pairs-map R f [] pairs = λ i j d before within. absurd (omega arith)
pairs-map {X} R f (x ∷ xs) pairs =
    let Own : X → X → Type 0 = λ (x z : X). R (f x) (f z) in
    AllPairs-cons R (f x) (map f xs) (All-map (R (f x)) f xs (pairs_head Own x xs pairs))
    (pairs-map R f xs (pairs_tail Own x xs pairs))

-- and of elements of two lists
pub pairs-append : {X : Type 0} (R : X → X → Type 0) (xs ys : List X) → AllPairs R xs → AllPairs R ys
    → All (λ (x : X). All (R x) ys) xs → AllPairs R (xs ++ ys)
pairs-append R [] ys first second across = second
pairs-append {X} R (x ∷ xs) ys first second across =
    let Across : X → Type 0 = λ (x : X). All (R x) ys in
    AllPairs-cons R x (xs ++ ys)
    (All-append (R x) xs ys (pairs_head R x xs first) (All-head Across x xs across))
    (pairs-append R xs ys (pairs_tail R x xs first) second (All-tail Across x xs across))

-- numbers of elements that do not descend, as a relation of the elements
pub pairs_of : {X : Type 0} (g : X → ℕ) (xs : List X) → IsNonDecreasing (map g xs)
    → AllPairs (λ (x y : X). g x ≤ g y) xs
pairs_of g xs ascends i j d before within =
    let a = get_or-map g xs i d 0 (omega arith) in
    let b = get_or-map g xs j d 0 within in
    let long = length-map xs g in
    let le = ascends i j 0 (omega arith) (omega arith) in
    omega arith

pub of_pairs : {X : Type 0} (g : X → ℕ) (xs : List X) → AllPairs (λ (x y : X). g x ≤ g y) xs
    → IsNonDecreasing (map g xs)
of_pairs {X} g [] pairs = λ i j d before within. absurd (omega arith)
of_pairs {X} g (x ∷ xs) pairs = λ i j d before within. (
    let long = length-map (x ∷ xs) g in
    let a = get_or-map g (x ∷ xs) i x d (omega arith) in
    let b = get_or-map g (x ∷ xs) j x d (omega arith) in
    elim (cases_eq i j) [
      | inl same ↦ (let e : g (get_or (x ∷ xs) i x) ≡ g (get_or (x ∷ xs) j x) =
          ap (λ (k : ℕ). g (get_or (x ∷ xs) k x)) same in omega arith)
      | inr other ↦ (let le = pairs i j x (omega arith) (omega arith) in omega arith)
    ])

-- numbers that do not descend, and behind them images whose numbers are none of them less
pub ascends_behind : {X : Type 0} (g : X → ℕ) (f : X → X) (over by : ℕ) → over ≤ by → ((x : X) → g (f x) ≡ g x + by)
    → (xs ys : List X) → IsNonDecreasing (map g xs) → IsNonDecreasing (map g ys) → All (λ (x : X). g x ≤ over) xs
    → IsNonDecreasing (map g (xs ++ map f ys))
ascends_behind {X} g f over by after moved xs ys first second past =
    let Before : X → X → Type 0 = λ (x y : X). g x ≤ g y in
    let own : AllPairs Before ys = pairs_of g ys second in
    let later : AllPairs (λ (x y : X). Before (f x) (f y)) ys = λ i j d before within.
    (let le = own i j d before within in
    omega (arith, le, moved (get_or ys i d), moved (get_or ys j d))) in
    let behind : All (λ (x : X). by ≤ g x) (map f ys) =
    All-map (λ (x : X). by ≤ g x) f ys (λ k d h. omega (arith, moved (get_or ys k d))) in
    of_pairs g (xs ++ map f ys)
    (pairs-append Before xs (map f ys) (pairs_of g xs first) (pairs-map Before f ys later)
    (all_across (λ (x : X). g x ≤ over) (λ (x : X). by ≤ g x) Before (λ x y p q. omega arith) xs (map f ys)
    past behind))
