use Rattle.std.proofs.Common.{◌≡◌, ℕ, ◌+◌, Bool, true, false, cond, List, [], ◌∷◌, ◌++◌, length, Some, None}
use Rattle.std.proofs.Common.{refl, ap, ◌∙◌, arith}
use Rattle.std.specs.List.{All, AllPairs, position_from}
use Rattle.std.specs.Option.{option_or, option_map}
use Rattle.std.proofs.lemmas.List.Elements.{All-cons, All-head, All-tail, All-append}
use Rattle.std.proofs.lemmas.List.Kept.{AllPairs-cons}
use Rattle.ats_facts.proofs.Lists.{all_left, all_right, pairs_head, pairs_tail}

-- an element may stand between two lists where it fits each of them
pub pairs_insert : {X : Type 0} (R : X → X → Type 0) (xs ys : List X) (x : X) → AllPairs R (xs ++ ys)
    → All (λ y. R y x) xs → All (R x) ys → AllPairs R (xs ++ x ∷ ys)
pairs_insert R [] ys x pairs before after = AllPairs-cons R x ys after pairs
pairs_insert R (y ∷ xs) ys x pairs before after =
    let rest : All (R y) (xs ++ ys) = pairs_head R y (xs ++ ys) pairs in
    AllPairs-cons R y (xs ++ x ∷ ys)
    (All-append (R y) xs (x ∷ ys) (all_left (R y) xs ys rest)
    (All-cons (R y) x ys (All-head (λ z. R z x) y xs before) (all_right (R y) xs ys rest)))
    (pairs_insert R xs ys x (pairs_tail R y (xs ++ ys) pairs) (All-tail (λ z. R z x) y xs before) after)

-- a search that begins to count later finds what stands so much later
pub position_from-later : {X : Type 0} (t : X → Bool) (i k : ℕ) (xs : List X)
    → position_from t (i + k) xs ≡ option_map (λ n. i + n) (position_from t k xs)
position_from-later t i k [] = refl
position_from-later t i k (x ∷ xs) =
    by (t x) (ap (λ (n : ℕ). position_from t n xs) (omega arith) ∙ position_from-later t i (k + 1) xs)
  where
    by : (b : Bool) → position_from t (i + k + 1) xs ≡ option_map (λ n. i + n) (position_from t (k + 1) xs)
        → cond b (Some (i + k)) (position_from t (i + k + 1) xs)
        ≡ option_map (λ n. i + n) (cond b (Some k) (position_from t (k + 1) xs))
    by true h = refl
    by false h = h

-- a search in two joined lists goes on in the second where it finds nothing in the first
pub position_from-append : {X : Type 0} (t : X → Bool) (i : ℕ) (xs ys : List X)
    → position_from t i (xs ++ ys) ≡ option_or (position_from t i xs) (position_from t (i + length xs) ys)
position_from-append t i [] ys = ap (λ (n : ℕ). position_from t n ys) (omega arith)
position_from-append t i (x ∷ xs) ys = by (t x) (position_from-append t (i + 1) xs ys
    ∙ ap (λ (n : ℕ). option_or (position_from t (i + 1) xs) (position_from t n ys)) (omega arith))
  where
    by : (b : Bool) → position_from t (i + 1) (xs ++ ys)
        ≡ option_or (position_from t (i + 1) xs) (position_from t (i + length (x ∷ xs)) ys)
        → cond b (Some i) (position_from t (i + 1) (xs ++ ys))
        ≡ option_or (cond b (Some i) (position_from t (i + 1) xs)) (position_from t (i + length (x ∷ xs)) ys)
    by true h = refl
    by false h = h

-- where each element fails, none is found
pub position_from-fails : {X : Type 0} (t : X → Bool) (i : ℕ) (xs : List X) → All (λ x. t x ≡ false) xs
    → position_from t i xs ≡ None
position_from-fails t i [] h = refl
position_from-fails t i (x ∷ xs) h =
    ap (λ (b : Bool). cond b (Some i) (position_from t (i + 1) xs)) (All-head (λ y. t y ≡ false) x xs h)
    ∙ position_from-fails t (i + 1) xs (All-tail (λ y. t y ≡ false) x xs h)
