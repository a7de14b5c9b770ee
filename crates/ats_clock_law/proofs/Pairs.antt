use Rattle.std.proofs.Common.{ℕ, suc, ◌<◌, ◌≤◌, ◌≡◌, List, [], ◌∷◌, length, get_or, map, ap, inl, inr, arith}
use Rattle.std.specs.Prelude.{All, AllPairs}
use Rattle.std.specs.List.Sorted.{IsNonDecreasingBy}
use Rattle.std.proofs.lemmas.Bool.{cases_lt}
use Rattle.std.proofs.lemmas.List.{get_or-map, length-map}

-- what two elements make of their own facts and of what holds of the pair
pub AllPairs-with : {X : Type 0} (P : X → Type 0) (R S : X → X → Type 0) (xs : List X)
    → ((x y : X) → P x → P y → R x y → S x y) → All P xs → AllPairs R xs → AllPairs S xs
AllPairs-with P R S xs f a r i j d h k = f _ _ (a i d (omega arith)) (a j d k) (r i j d h k)

-- an ascending list by pairs, and back
pub AllPairs-from_order : {X : Type 0} (n : X → ℕ) (xs : List X) → IsNonDecreasingBy n xs
    → AllPairs (λ (x y : X). n x ≤ n y) xs
AllPairs-from_order n xs o i j d h k = o i j d (omega arith) k

pub order-from_AllPairs : {X : Type 0} (n : X → ℕ) (xs : List X) → AllPairs (λ (x y : X). n x ≤ n y) xs
    → IsNonDecreasingBy n xs
order-from_AllPairs n xs p i j d h k = elim (cases_lt i j) [
  | inl l ↦ p i j d l k
  | inr l ↦
      (let same : i ≡ j = omega arith in
      let e = ap (λ (m : ℕ). n (get_or xs m d)) same in
      omega arith)
]

-- of one element and all later ones
pub order-first : {X : Type 0} (n : X → ℕ) (x : X) (xs : List X) → IsNonDecreasingBy n (x ∷ xs)
    → All (λ (y : X). n x ≤ n y) xs
order-first n x xs o i d h = o 0 (suc i) d (omega arith) (omega arith)

pub order-rest : {X : Type 0} (n : X → ℕ) (x : X) (xs : List X) → IsNonDecreasingBy n (x ∷ xs)
    → IsNonDecreasingBy n xs
order-rest n x xs o i j d h k = o (suc i) (suc j) d (omega arith) (omega arith)

-- a weaker fact of each
pub All-with : {X : Type 0} (P Q : X → Type 0) (xs : List X) → ((x : X) → P x → Q x) → All P xs → All Q xs
All-with P Q xs f a i d h = f _ (a i d h)

pub All-both : {X : Type 0} (P Q R : X → Type 0) (xs : List X) → ((x : X) → P x → Q x → R x) → All P xs → All Q xs
    → All R xs
All-both P Q R xs f a b i d h = f _ (a i d h) (b i d h)

-- of elements that are made of those of another list
pub order-mapped : {X Y : Type 0} (n : Y → ℕ) (f : X → Y) (xs : List X) → IsNonDecreasingBy (λ (x : X). n (f x)) xs
    → IsNonDecreasingBy n (map f xs)
order-mapped n f [] o i j d h k = absurd (omega arith)
order-mapped n f (x ∷ xs) o i j d h k =
    let within : j < length (x ∷ xs) = rw (length-map (x ∷ xs) f) at k in
    let first = get_or-map f (x ∷ xs) i x d (omega arith) in
    let second = get_or-map f (x ∷ xs) j x d within in
    rw (first, second) (o i j x h within)
