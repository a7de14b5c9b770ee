use Rattle.std.proofs.Common.{ℕ, zero, suc, ◌≤◌, List, [], ◌∷◌, All, refl, inl, inr, arith}
use Rattle.std.specs.Prelude.{IsPermutation}
use Rattle.std.specs.List.Sorted.{IsNonDecreasingBy}
use Rattle.std.proofs.lemmas.Bool.{cases_lt}
use Rattle.std.proofs.lemmas.List.Elements.{All-nil, All-cons, All-weaker}
use Rattle.std.proofs.lemmas.List.Sorted.{IsPermutation-refl, IsPermutation-cons, IsPermutation-trans, All-permutation}
use Rattle.std.proofs.lemmas.List.Sorted.{IsPermutation-swap}
use Rattle.ats_clock_law.proofs.Pairs.{order-first, order-rest}
use Rattle.ats_bucket.specs.Conforming.{Frame}

-- elements in the order of a number of each
pub record InOrderBy {X : Type 0} (key : X → ℕ) (xs : List X) : Type 0 where
  pub order : List X
  pub same : IsPermutation xs order
  pub ascends : IsNonDecreasingBy key order

-- one element before others that are no earlier
ascends-cons : {X : Type 0} (key : X → ℕ) (x : X) (xs : List X) → All (λ (y : X). key x ≤ key y) xs
    → IsNonDecreasingBy key xs → IsNonDecreasingBy key (x ∷ xs)
ascends-cons key x xs past o zero zero d h k = omega arith
ascends-cons key x xs past o zero (suc j) d h k = past j d (omega arith)
ascends-cons key x xs past o (suc i) zero d h k = absurd (omega arith)
ascends-cons key x xs past o (suc i) (suc j) d h k = o i j d (omega arith) (omega arith)

swap_first : {X : Type 0} (x y : X) (xs : List X) → IsPermutation (x ∷ y ∷ xs) (y ∷ x ∷ xs)
swap_first x y xs = IsPermutation-swap (x ∷ y ∷ xs) (y ∷ x ∷ xs) 0 1 (omega arith) (omega arith) refl

-- one element more
with_one : {X : Type 0} (key : X → ℕ) (x : X) (xs : List X) → IsNonDecreasingBy key xs → InOrderBy key (x ∷ xs)
with_one {X} key x [] o = record {
  order = x ∷ [];
  same = IsPermutation-refl (x ∷ []);
  ascends = ascends-cons key x [] (All-nil (λ (y : X). key x ≤ key y)) o;
}
with_one {X} key x (y ∷ xs) o = elim (cases_lt (key y) (key x)) as (λ _. InOrderBy key (x ∷ y ∷ xs)) [
  | inl later ↦ (
      let rest : InOrderBy key (x ∷ xs) = with_one key x xs (order-rest key y xs o) in
      let past : All (λ (z : X). key y ≤ key z) (x ∷ xs) =
      All-cons (λ (z : X). key y ≤ key z) x xs (omega arith) (order-first key y xs o) in
      record {
        order = y ∷ rest.order;
        same = IsPermutation-trans (x ∷ y ∷ xs) (y ∷ x ∷ xs) (y ∷ rest.order) (swap_first x y xs)
            (IsPermutation-cons y (x ∷ xs) rest.order rest.same);
        ascends = ascends-cons key y rest.order
            (All-permutation (λ (z : X). key y ≤ key z) (x ∷ xs) rest.order rest.same past) rest.ascends;
      })
  | inr first ↦ (
      let past : All (λ (z : X). key x ≤ key z) xs = All-weaker (λ (z : X). key y ≤ key z)
      (λ (z : X). key x ≤ key z) (λ z le. omega arith) xs (order-first key y xs o) in
      record {
        order = x ∷ y ∷ xs;
        same = IsPermutation-refl (x ∷ y ∷ xs);
        ascends = ascends-cons key x (y ∷ xs) (All-cons (λ (z : X). key x ≤ key z) y xs first past) o;
      })
]

pub in_order_by : {X : Type 0} (key : X → ℕ) (xs : List X) → InOrderBy key xs
in_order_by key [] = record { order = []; same = IsPermutation-refl []; ascends = λ i j d h k. absurd (omega arith) }
in_order_by key (x ∷ xs) =
    let rest : InOrderBy key xs = in_order_by key xs in
    let all : InOrderBy key (x ∷ rest.order) = with_one key x rest.order rest.ascends in
    record {
      order = all.order;
      same = IsPermutation-trans (x ∷ xs) (x ∷ rest.order) all.order
          (IsPermutation-cons x xs rest.order rest.same) all.same;
      ascends = all.ascends;
    }

-- frames in the order of their times
abbrev pub InOrder : List Frame → Type 0
InOrder frames = InOrderBy (λ (f : Frame). f.at) frames

pub in_order : (frames : List Frame) → InOrder frames
in_order frames = in_order_by (λ (f : Frame). f.at) frames
