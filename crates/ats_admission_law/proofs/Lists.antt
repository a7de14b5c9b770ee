-- Lists that differ by one element.
use Rattle.std.proofs.Common.{◌≡◌, Bool, true, false, List, [], ◌∷◌, ◌++◌}
use Rattle.std.proofs.Common.{refl}
use Rattle.std.specs.Prelude.{◌||◌}
use Rattle.std.specs.List.{All, AllPairs, list_any}
use Rattle.std.proofs.lemmas.List.Elements.{All-head, All-tail, All-append}
use Rattle.std.proofs.lemmas.List.Kept.{AllPairs-cons}
use Rattle.ats_facts.proofs.Lists.{all_left, all_right, pairs_head, pairs_tail}

-- what holds of each element holds of each of the others, and of the one
pub all_less : {X : Type 0} (P : X → Type 0) (xs : List X) (x : X) (ys : List X) → All P (xs ++ x ∷ ys)
    → All P (xs ++ ys)
all_less P xs x ys all =
    All-append P xs ys (all_left P xs (x ∷ ys) all) (All-tail P x ys (all_right P xs (x ∷ ys) all))

pub all_one : {X : Type 0} (P : X → Type 0) (xs : List X) (x : X) (ys : List X) → All P (xs ++ x ∷ ys) → P x
all_one P xs x ys all = All-head P x ys (all_right P xs (x ∷ ys) all)

pub pairs_less : {X : Type 0} (R : X → X → Type 0) (xs : List X) (x : X) (ys : List X) → AllPairs R (xs ++ x ∷ ys)
    → AllPairs R (xs ++ ys)
pairs_less R [] x ys pairs = pairs_tail R x ys pairs
pairs_less R (y ∷ xs) x ys pairs =
    AllPairs-cons R y (xs ++ ys) (all_less (R y) xs x ys (pairs_head R y (xs ++ x ∷ ys) pairs))
    (pairs_less R xs x ys (pairs_tail R y (xs ++ x ∷ ys) pairs))

-- where one of the others passes a test, one of all passes
pub any_less : {X : Type 0} (test : X → Bool) (xs : List X) (x : X) (ys : List X) → list_any test (xs ++ ys) ≡ true
    → list_any test (xs ++ x ∷ ys) ≡ true
any_less test [] x ys any = by (test x) any
  where
    by : (b : Bool) → list_any test ys ≡ true → (b || list_any test ys) ≡ true
    by true any = refl
    by false any = any
any_less {X} test (y ∷ xs) x ys any = by (test y) any (any_less test xs x ys)
  where
    by : (b : Bool) → (b || list_any test (xs ++ ys)) ≡ true
        → (list_any test (xs ++ ys) ≡ true → list_any test (xs ++ x ∷ ys) ≡ true)
        → (b || list_any test (xs ++ x ∷ ys)) ≡ true
    by true any more = refl
    by false any more = more any
